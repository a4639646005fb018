-- A feature that is asked for is the model's step.
use Rattle.std.proofs.Common.{◌≡◌, true, Ok, refl}
use Rattle.gx_model.specs.declared.objects.Kind.{Kind}
use Rattle.gx_model.specs.declared.features.Feature.TheVariants as features
use Rattle.gx_model.specs.Texts.{Bytes}
use Rattle.gx_model.specs.Streams.Commands.{Asks}
use Rattle.gx_model.specs.Histories.{Records}
use Rattle.gx_model.specs.Replay.{State, step}
use Rattle.gx_import.specs.declared.tables.Tables.{Tables}
use Rattle.gx_import.specs.Standing.{Follows, Stands}

pub forced_now : {A : Type 0} (name : Kind → Bytes → Bytes) (r : Records) (tables : Tables A) (s : State) → Stands name r tables s
    → (t : State) × (step name s (Asks features.Force) ≡ Ok t) × Follows name r (record tables { is_forced = true }) s t
forced_now name r tables s h = (
  record s { is_forced = true },
  refl,
  record {
    stands = record {
      history = h.history;
      marks = h.marks;
      branches = h.branches;
      tags = h.tags;
      ref_names = h.ref_names;
      own = h.own;
      forced = refl;
      published = h.published;
    };
    progress = refl;
    held = refl;
  },
)
