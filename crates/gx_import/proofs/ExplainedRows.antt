-- Worked rows on what is told: of three changes the second asks for a mark that nothing has.
use Rattle.std.proofs.Common.{◌≡◌, List, [], ◌∷◌, Some, None, inr, refl}
use Rattle.std.specs.Prelude.{codes}
use Rattle.gx_model.specs.declared.objects.Kind.{Kind}
use Rattle.gx_model.specs.declared.objects.Mode.TheVariants.{File}
use Rattle.gx_model.specs.declared.faults.Fault.TheVariants.{UnknownMark}
use Rattle.gx_model.specs.Texts.{Bytes}
use Rattle.gx_model.specs.Texts.Paths.{Path}
use Rattle.gx_model.specs.Streams.Commands.{Change, Clear, Copy, Inline, Mark, Modify, Remove}
use Rattle.gx_model.specs.Replay.{start}
use Rattle.gx_model.specs.Histories.{no_history}
use Rattle.gx_import.specs.Explaining.{IsRefusedAt, path_of}

abbrev f : Path
f = codes "f" ∷ []

abbrev g : Path
g = codes "d" ∷ codes "g" ∷ []

abbrev three : List Change
three = Modify File (Inline (codes "x")) f ∷ Modify File (Mark 9) g ∷ Remove f ∷ []

-- it is the second, at its path
pub second_is_told : (name : Kind → Bytes → Bytes) → IsRefusedAt name (start no_history) [] three UnknownMark 2 (Some g)
second_is_told name = record {
  before = Modify File (Inline (codes "x")) f ∷ [];
  change = Modify File (Mark 9) g;
  after = Remove f ∷ [];
  all = refl;
  count = refl;
  at = refl;
  made = _;
  steps = refl;
  refused = inr (inr refl);
}

-- a copy has the path of its source, and `deleteall` none
pub source_is_told : path_of (Copy f g) ≡ Some f
source_is_told = refl

pub none_is_told : path_of Clear ≡ None
none_is_told = refl
