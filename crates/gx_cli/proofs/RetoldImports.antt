-- What imports from a source that tells nothing tell of the very commands that they import, through each part of a command.
use Rattle.std.proofs.Common.{◌≡◌, ℕ, refl, subst, inl, inr, Option, None, Result, Ok, Err}
use Rattle.gx_model.specs.declared.objects.Kind.{Kind}
use Rattle.gx_model.specs.declared.features.Features.{Features}
use Rattle.gx_model.specs.declared.store_faults.FileFault.{FileFault}
use Rattle.gx_model.specs.declared.store_faults.FileFault.TheVariants as file
use Rattle.gx_model.specs.Texts.{Bytes}
use Rattle.gx_model.specs.Faults.{Given}
use Rattle.gx_model.specs.Histories.{Records, empty_repository}
use Rattle.gx_model.specs.Stores.StoreReading.{Stored}
use Rattle.gx_model.specs.Texts.Sinks.{Taken}
use Rattle.gx_lines.specs.Reads.{IsFaultOf}
use Rattle.gx_import.specs.Explaining.{TellsNothing}
use Rattle.gx_import.specs.Retelling.{IsOfOneReplay}
use Rattle.gx_import.specs.declared.explanation.Explanation.{Explanation}
use Rattle.gx_import.specs.declared.fault.ImportFault.{ImportFault}
use Rattle.gx_import.specs.declared.report.Report.{Report}
use Rattle.gx_asks.specs.declared.question.ExportForm.{ExportForm}
use Rattle.gx_cli.specs.Checking.{TellsBack}
use Rattle.gx_cli.specs.Headline.{ComesBackOr}
use Rattle.gx_cli.specs.Retold.{RetellsAlone, RetellsRefused, RetellsReported, RetellsStored, RetellsTrip}
use Rattle.gx_cli.specs.Trying.{Shows}
use Rattle.gx_cli.specs.declared.fault.CliFault.{CliFault}
use Rattle.gx_cli.specs.declared.fault.CliFault.TheVariants.{Import, OutOfMemory, Store}
use Rattle.gx_cli.specs.declared.questions.Question.{Question}
use Rattle.gx_cli.specs.declared.trips.RoundTrip.{RoundTrip}

module _ (name : Kind → Bytes → Bytes) {A : Type 0} (told : Explanation A) (asks : Features) (was now : Option Taken) where
  -- a trip that came back, or stopped on its way
  pub trip_retold : {N : Type 0} (form : ExportForm) (question : Option (Question A)) (report : Report) (old new : Records) (answer : Result (RoundTrip N A) CliFault)
      → ComesBackOr name {N = N} {A = A} form question report new answer → TellsNothing told → RetellsTrip name asks old new was now answer told
  trip_retold form question report old new (Err (Import fault)) h k = absurd h
  trip_retold form question report old new (Ok trip) h k = k
  trip_retold form question report old new (Err fault) h k = k

  -- a line that went out, or didn't
  pub line_retold : (commands : ℕ) (again : Records) (mid sent : Option Taken) (answer : Result (Unit {0}) CliFault) → TellsBack commands again mid sent answer → TellsNothing told → RetellsAlone name asks was now answer told
  line_retold commands again mid sent (Err (Import fault)) h k = absurd h
  line_retold commands again mid sent (Ok u) h k = k
  line_retold commands again mid sent (Err fault) h k = k

  -- the word of an accepted stream that is shown, or refused
  pub shown_retold : (before : Bytes) (given : Given Bytes) (mid sent : Option Taken) (answer : Result (Unit {0}) CliFault) → Shows before given mid sent answer → TellsNothing told → RetellsAlone name asks was now answer told
  shown_retold before given mid sent (Err (Import fault)) h k = absurd h
  shown_retold before given mid sent (Ok u) h k = k
  shown_retold before given mid sent (Err fault) h k = k

  -- a refused trip from a repository with nothing
  pub fault_retold : (X Y : Type 0) (old new : Records) (fault : CliFault) → old ≡ empty_repository → RetellsTrip name {X = X} asks old new was now (Err fault) told → RetellsAlone name {X = Y} asks was now (Err fault) told
  fault_retold X Y old new fault empty h = by fault (subst (λ r. RetellsTrip name {X = X} asks r new was now (Err fault) told) empty h)
    where
      by : (f : CliFault) → RetellsTrip name {X = X} asks empty_repository new was now (Err f) told → RetellsAlone name {X = Y} asks was now (Err f) told
      by (Import f) k = (new, k)
      by f k = k

-- a refused import into a repository with nothing
pub alone_retold : {N A : Type 0} (name_of : N → Kind → Bytes → Bytes) (namer : N) (old : N × Records) (new : Records) (asks : Features) (was now : Option Taken) (fault : ImportFault) (told : Explanation A) → old ≡ (namer, empty_repository)
    → IsOfOneReplay asks (name_of old.0) old.1 new was now (Err fault) told → RetellsRefused (name_of namer) asks was now fault told
alone_retold name_of namer old new asks was now fault told e h = (new, subst (λ o. IsOfOneReplay asks (name_of o.0) o.1 new was now (Err fault) told) e h)

module _ (name : Kind → Bytes → Bytes) {A : Type 0} (told : Explanation A) (asks : Features) (was : Option Taken) (blank : TellsNothing told) where
  -- a store that isn't read
  pub unread_retold : (stored : Stored Records) (why : FileFault) → IsFaultOf why stored → RetellsStored name asks stored was was (None, Err (Store why)) told
  unread_retold (Ok old) file.OutOfMemory h = inl (refl, blank)
  unread_retold (Ok old) why h = absurd (cc h)
  unread_retold (Err f) why h = blank

  -- no report of one that isn't read
  pub unread_reported : (N : Type 0) (stored : Stored Records) (why : FileFault) → IsFaultOf why stored → RetellsReported name {N = N} asks stored was was (None, Err (Store why)) told
  unread_reported N (Ok old) why h = ((None, Err (Store why)), told, unread_retold (Ok old) why h, inr (refl, refl), inl (refl, refl))
  unread_reported N (Err f) why h = ((None, Err (Store why)), told, blank, refl, inl (refl, refl))

  -- no memory for what the refs were
  pub none_reported : (N : Type 0) (old : Records) → RetellsReported name {N = N} asks (Ok old) was was (None, Err OutOfMemory) told
  none_reported N old = ((None, Err (Store file.OutOfMemory)), told, inl (refl, blank), inl refl, inr (refl, blank))
