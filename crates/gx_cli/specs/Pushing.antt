-- Pushes that answer the repository whose text is the store's next one. Source: git-push(1), and git-fast-import(1).
use Rattle.std.specs.Prelude.{◌≡◌, ◌⊎◌, Bool, List, Option, Result, Ok, Err, ⊤}
use Rattle.std.specs.Result.{result_map_both}
use Rattle.gx_model.specs.declared.objects.Kind.{Kind}
use Rattle.gx_model.specs.declared.store_faults.FileFault.{FileFault}
use Rattle.gx_model.specs.declared.store_faults.FileFault.TheVariants as file
use Rattle.gx_model.specs.Histories.{Records}
use Rattle.gx_model.specs.Records.Publishing.{Ref}
use Rattle.gx_model.specs.Stores.StoreReading.{Stored}
use Rattle.gx_model.specs.Texts.{Bytes}
use Rattle.gx_model.specs.Texts.Sinks.{Taken}
use Rattle.gx_text.specs.Devices.{Coming}
use Rattle.gx_repo.specs.Reporting.{IsReport}
use Rattle.gx_import.specs.Explaining.{TellsNothing}
use Rattle.gx_import.specs.declared.explanation.Explanation.{Explanation}
use Rattle.gx_import.specs.declared.report.Report.{Report}
use Rattle.gx_push.specs.declared.pushing.Pushed.{Pushed}
use Rattle.gx_push.specs.Pushes as push
use Rattle.gx_cli.specs.Gathering.{of_push}
use Rattle.gx_cli.specs.declared.fault.CliFault.{CliFault}
use Rattle.gx_cli.specs.declared.fault.CliFault.TheVariants.{Store}

-- the repository whose text is the next one, and what was imported; or why there is no next text
abbrev pub Answer : Type 0
Answer = Result (Records × Report) CliFault

-- an answer without the namer and the report of the refs
abbrev pub answer_of : {N A : Type 0} → Result (Pushed N A) CliFault → Answer
answer_of = result_map_both (λ pushed. (pushed.repo.1, pushed.report)) (λ fault. fault)

-- an answer of a push, with its fault among those of the commands
abbrev pub of_pushed : push.Answer → Answer
of_pushed = result_map_both (λ left. left) of_push

module _ (name : Kind → Bytes → Bytes) (done : Bool) where
  -- the push of a stream by these lines into the store that a text was read as
  abbrev pub PushesStored : Stored Records → List Bytes → Option Coming → Option Taken → Option Taken → Answer → Type 0
  PushesStored (Ok old) lines coming was now answer =
      ((answer ≡ Err (Store file.OutOfMemory)) × (now ≡ was))
      ⊎ ((given : push.Answer) × push.Pushes name done old lines coming was now given × (answer ≡ of_pushed given))
  PushesStored (Err f) lines coming was now answer = (why : FileFault) × ((why ≡ file.OutOfMemory) ⊎ (f ≡ why)) × (answer ≡ Err (Store why)) × (now ≡ was)

  -- of a refused stream it is told what that is about; where no store was read, nothing is told
  abbrev pub ExplainsPushed : {A : Type 0} → Stored Records → Option Coming → Answer → Explanation A → Type 0
  ExplainsPushed (Ok old) coming answer told = TellsNothing told ⊎ ((given : push.Answer) × push.Explains name done old coming given told × (answer ≡ of_pushed given))
  ExplainsPushed (Err f) coming answer told = TellsNothing told

  -- the same of a source that tells nothing: what is told is about the commands that were refused
  abbrev pub RetellsPushed : {A : Type 0} → Stored Records → Option Taken → Option Taken → Answer → Explanation A → Type 0
  RetellsPushed (Ok old) was now answer told = TellsNothing told ⊎ ((given : push.Answer) × push.Retells name done old was now given told × (answer ≡ of_pushed given))
  RetellsPushed (Err f) was now answer told = TellsNothing told

-- beside the repository that is left stands the report of the refs that differ from those of the store
abbrev pub ReportsPushed : {N A : Type 0} → Stored Records → Result (Pushed N A) CliFault → Type 0
ReportsPushed (Ok old) (Ok pushed) = IsReport old.refs pushed.repo.1.refs pushed.changes.items
ReportsPushed (Err f) (Ok pushed) = ⊥
ReportsPushed stored (Err fault) = ⊤
