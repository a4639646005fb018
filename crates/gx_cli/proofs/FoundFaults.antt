-- What a stream is refused for, found by its import into an empty store.
use Rattle.std.proofs.Common.{◌≡◌, Bool, false, ap, subst, [], Option, Some, None, Err}
use Rattle.gx_model.specs.declared.objects.Kind.{Kind}
use Rattle.gx_model.specs.declared.features.Features.{Features}
use Rattle.gx_model.specs.Texts.{Bytes}
use Rattle.gx_model.specs.Texts.Sinks.{Taken}
use Rattle.gx_text.specs.Devices.{Coming}
use Rattle.gx_import.specs.declared.explanation.Explanation.{Explanation}
use Rattle.gx_import.specs.declared.fault.ImportFault.{ImportFault}
use Rattle.gx_cli.specs.Retold.{RetellsRefused}
use Rattle.gx_cli.specs.Trying.{FindsFault, ImportsAlone, having_taken}
use Rattle.gx_cli.specs.declared.fault.CliFault.TheVariants.{Import}

abbrev taken_so : Bytes → Bool → Taken
taken_so bytes failed = record { bytes = bytes; failed = failed }

-- a stream is refused for this, where the sink took all of the progress text
pub fault_found : (N : Type 0) (asks : Features) (name : Kind → Bytes → Bytes) (was now : Taken) (coming : Option Coming) (fault : ImportFault)
    → was ≡ having_taken [] → now.failed ≡ false → ImportsAlone name {N = N} asks coming (Some was) (Some now) (Err fault) → FindsFault name asks coming (Err (Import fault))
fault_found N asks name was now coming fault fresh e h =
    by coming (subst (λ t. ImportsAlone name {N = N} asks coming (Some (having_taken [])) (Some t) (Err fault)) (ap (taken_so now.bytes) e) (subst (λ t. ImportsAlone name {N = N} asks coming (Some t) (Some now) (Err fault)) fresh h))
  where
    by : (c : Option Coming) → ImportsAlone name {N = N} asks c (Some (having_taken [])) (Some (having_taken now.bytes)) (Err fault) → FindsFault name asks c (Err (Import fault))
    by None k = (k.0, k.1, (now.bytes, k.2))
    by (Some c) k = (now.bytes, k)

-- of a refused stream, whose progress text the sink took, it is told by the commands that were replayed
pub found_retold : (name : Kind → Bytes → Bytes) {A : Type 0} (told : Explanation A) (asks : Features) (was now : Taken) (fault : ImportFault) → was ≡ having_taken [] → now.failed ≡ false
    → RetellsRefused name asks (Some was) (Some now) fault told → (text : Bytes) × RetellsRefused name asks (Some (having_taken [])) (Some (having_taken text)) fault told
found_retold name told asks was now fault fresh e h =
    (now.bytes, subst (λ t. RetellsRefused name asks (Some (having_taken [])) (Some t) fault told) (ap (taken_so now.bytes) e) (subst (λ t. RetellsRefused name asks (Some t) (Some now) fault told) fresh h))
