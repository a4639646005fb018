-- What is told of a trip from a repository with nothing.
use Rattle.std.proofs.Common.{◌≡◌, ℕ, true, ap, subst, Option, None, Result, Ok, Err}
use Rattle.gx_model.specs.declared.objects.Kind.{Kind}
use Rattle.gx_model.specs.declared.features.Features.{Features}
use Rattle.gx_model.specs.Texts.{Bytes}
use Rattle.gx_model.specs.Histories.{Records, empty_repository}
use Rattle.gx_model.specs.Texts.Sinks.{Taken}
use Rattle.gx_text.specs.Devices.{Coming}
use Rattle.gx_import.specs.Explaining.{TellsNothing}
use Rattle.gx_import.specs.declared.explanation.Explanation.{Explanation}
use Rattle.gx_asks.specs.declared.question.ExportForm.TheVariants.{Changes}
use Rattle.gx_cli.specs.Checking.{ReturnsCopy, TellsBack}
use Rattle.gx_cli.specs.Explained.{ExplainsCommand}
use Rattle.gx_cli.specs.Headline.{RoundTrips}
use Rattle.gx_cli.specs.declared.fault.CliFault.{CliFault}
use Rattle.gx_cli.specs.declared.fault.CliFault.TheVariants.{Export, Import, OutOfMemory}
use Rattle.gx_cli.specs.declared.trips.RoundTrip.{RoundTrip}

module _ (N A : Type 0) (name : Kind → Bytes → Bytes) (asks : Features) (made : Records) (coming : Option Coming) (was mid : Option Taken) where
  -- it came back
  pub copy_back : (trip : RoundTrip N A) → RoundTrips name {N = N} {A = A} (Changes true) asks None empty_repository made coming was mid (Ok trip) → ReturnsCopy name asks made coming was mid (Ok (trip.report, trip.again.1))
  copy_back trip h = (h.0, h.1.again)

  -- it didn't
  pub copy_stopped : (fault : CliFault) → RoundTrips name {N = N} {A = A} (Changes true) asks None empty_repository made coming was mid (Err fault) → ReturnsCopy name asks made coming was mid (Err fault)
  copy_stopped (Import fault) h = h
  copy_stopped OutOfMemory h = h
  copy_stopped (Export fault) h = h
  copy_stopped fault h = absurd h

-- the repository is one with nothing
pub from_nothing : {N A : Type 0} (name : Kind → Bytes → Bytes) (asks : Features) (old : N × Records) (namer : N) (made : Records) (coming : Option Coming) (was mid : Option Taken) (answer : Result (RoundTrip N A) CliFault) → old ≡ (namer, empty_repository)
    → RoundTrips name {N = N} {A = A} (Changes true) asks None old.1 made coming was mid answer → RoundTrips name {N = N} {A = A} (Changes true) asks None empty_repository made coming was mid answer
from_nothing {N} {A} name asks old namer made coming was mid answer empty h =
    subst (λ (r : Records). RoundTrips name {N = N} {A = A} (Changes true) asks None r made coming was mid answer) (ap (λ (o : N × Records). o.1) empty) h

module _ (name : Kind → Bytes → Bytes) {A : Type 0} (asks : Features) (coming : Option Coming) (told : Explanation A) where
  -- of a line that went out, or didn't, nothing is told
  pub line_told : (commands : ℕ) (again : Records) (was now : Option Taken) (answer : Result (Unit {0}) CliFault) → TellsBack commands again was now answer → TellsNothing told → ExplainsCommand name asks empty_repository coming answer told
  line_told commands again was now (Err (Import fault)) h k = absurd h
  line_told commands again was now (Ok u) h k = k
  line_told commands again was now (Err fault) h k = k

  -- what is told of a refusal is told whatever else would be answered
  pub fault_told : (X Y : Type 0) (old : Records) (fault : CliFault) → old ≡ empty_repository → ExplainsCommand name {X = X} asks old coming (Err fault) told → ExplainsCommand name {X = Y} asks empty_repository coming (Err fault) told
  fault_told X Y old fault empty h = by fault (subst (λ r. ExplainsCommand name {X = X} asks r coming (Err fault) told) empty h)
    where
      by : (f : CliFault) → ExplainsCommand name {X = X} asks empty_repository coming (Err f) told → ExplainsCommand name {X = Y} asks empty_repository coming (Err f) told
      by (Import f) k = k
      by f k = k
