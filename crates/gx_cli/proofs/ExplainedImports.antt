-- What imports tell of a refusal, through each part of a command.
use Rattle.std.proofs.Common.{◌≡◌, sym, subst, inl, inr, Option, Result, Ok, Err}
use Rattle.gx_model.specs.declared.objects.Kind.{Kind}
use Rattle.gx_model.specs.declared.features.Features.{Features}
use Rattle.gx_model.specs.declared.store_faults.FileFault.{FileFault}
use Rattle.gx_model.specs.Texts.{Bytes}
use Rattle.gx_model.specs.Faults.{Given}
use Rattle.gx_model.specs.Histories.{Records, empty_repository}
use Rattle.gx_model.specs.Stores.StoreReading.{Stored}
use Rattle.gx_model.specs.Texts.Sinks.{Taken}
use Rattle.gx_text.specs.Devices.{Coming}
use Rattle.gx_import.specs.Explaining.{ExplainsFault, TellsNothing}
use Rattle.gx_import.specs.declared.explanation.Explanation.{Explanation}
use Rattle.gx_import.specs.declared.fault.ImportFault.{ImportFault}
use Rattle.gx_cli.specs.Explained.{ExplainsCommand, ExplainsStored, KeepsTold}
use Rattle.gx_cli.specs.Trying.{Shows}
use Rattle.gx_cli.specs.declared.fault.CliFault.{CliFault}
use Rattle.gx_cli.specs.declared.fault.CliFault.TheVariants.{Import, Store}

module _ (name : Kind → Bytes → Bytes) {A : Type 0} (told : Explanation A) where
  -- of a store that isn't read nothing is told
  pub unread_told : (X : Type 0) (asks : Features) (stored : Stored Records) (coming : Option Coming) (why : FileFault) → TellsNothing told
      → ExplainsStored name {X = X} asks stored coming (Err (Store why)) told
  unread_told X asks (Ok old) coming why h = h
  unread_told X asks (Err f) coming why h = h

  -- the word of an accepted stream is shown, or refused, and nothing is told
  pub shown_told : (asks : Features) (coming : Option Coming) (before : Bytes) (given : Given Bytes) (was now : Option Taken) (answer : Result (Unit {0}) CliFault)
      → Shows before given was now answer → TellsNothing told → ExplainsCommand name asks empty_repository coming answer told
  shown_told asks coming before given was now (Err (Import fault)) h k = absurd h
  shown_told asks coming before given was now (Ok u) h k = k
  shown_told asks coming before given was now (Err fault) h k = k

-- what was told stays with the answer, or nothing is told
pub kept_told : (name : Kind → Bytes → Bytes) {X A : Type 0} (asks : Features) (old : Records) (coming : Option Coming) (before after : Result X CliFault) (was now : Explanation A)
    → KeepsTold before was after now → ExplainsCommand name asks old coming before was → ExplainsCommand name asks old coming after now
kept_told name asks old coming before after was now (inl h) k =
    subst (λ a. ExplainsCommand name asks old coming a now) (sym h.0) (subst (λ t. ExplainsCommand name asks old coming before t) (sym h.1) k)
kept_told name asks old coming before after was now (inr h) k = subst (λ a. ExplainsCommand name asks old coming a now) (sym h.0) h.1

-- an import into a repository with nothing, where it is refused
pub alone_told : {N A : Type 0} (name_of : N → Kind → Bytes → Bytes) (namer : N) (old : N × Records) (asks : Features) (coming : Option Coming) (fault : ImportFault) (told : Explanation A) → old ≡ (namer, empty_repository)
    → ExplainsFault (name_of old.0) asks old.1 coming fault told → ExplainsFault (name_of namer) asks empty_repository coming fault told
alone_told name_of namer old asks coming fault told e h = subst (λ o. ExplainsFault (name_of o.0) asks o.1 coming fault told) e h
