-- Imports that answer the repository whose text is the store's next one.
-- Source: git-fast-import(1).
use Rattle.std.specs.Prelude.{◌≡◌, ◌⊎◌, ℕ, zero, suc, Option, Some, None, Result, Ok, Err, ⊤}
use Rattle.std.specs.Option.{option_map}
use Rattle.gx_model.specs.declared.objects.Kind.{Kind}
use Rattle.gx_model.specs.declared.features.Features.{Features}
use Rattle.gx_model.specs.Texts.{Bytes}
use Rattle.gx_model.specs.Histories.{Records, empty_repository}
use Rattle.gx_model.specs.Records.HistoryOf.{history_of}
use Rattle.gx_model.specs.Laws.ExportLaws.{HasSayable}
use Rattle.gx_model.specs.Records.Sound.{IsSound}
use Rattle.gx_model.specs.Stores.StoreReading.{Stored}
use Rattle.gx_model.specs.Texts.Sinks.{Taken}
use Rattle.gx_text.specs.Devices.{Coming}
use Rattle.gx_import.specs.Exported.{IsExported, KeepsSayable}
use Rattle.gx_import.specs.Imports.{Imports}
use Rattle.gx_import.specs.declared.report.Report.{Report}
use Rattle.gx_import.specs.declared.fault.ImportFault.{ImportFault}
use Rattle.gx_model.specs.declared.faults.Fault.TheVariants as kind
use Rattle.gx_model.specs.declared.store_faults.FileFault.{FileFault}
use Rattle.gx_model.specs.declared.store_faults.FileFault.TheVariants as file
use Rattle.gx_asks.specs.declared.question.ExportForm.{ExportForm}
use Rattle.gx_cli.specs.Again.{GivesForm, LeaveForm}
use Rattle.gx_cli.specs.declared.fault.CliFault.{CliFault}
use Rattle.gx_cli.specs.declared.fault.CliFault.TheVariants.{Import, Store}

-- the repository whose text is the store's next one, where there is one, and what was imported or why it is refused
abbrev pub Answer : Type 0
Answer = Option Records × Result Report CliFault

-- the same with its namer
abbrev pub Imported : Type 0 → Type 0
Imported N = Option (N × Records) × Result Report CliFault

-- an answer without the namer
abbrev pub answer_of : {N : Type 0} → Imported N → Answer
answer_of given = (option_map (λ repo. repo.1) given.0, given.1)

-- memory ran out, while the store was read or while the stream was imported, or the sink of progress texts failed
abbrev pub IsInterrupted : Answer → Type 0
IsInterrupted answer =
    (answer ≡ (None, Err (Store file.OutOfMemory)))
    ⊎ ((fault : ImportFault) × ((fault.kind ≡ kind.OutOfMemory) ⊎ (fault.kind ≡ kind.WriteFailed)) × (answer ≡ (None, Err (Import fault))))

-- where an import is refused after so many checkpoints, the next text is that of what the last one published; after none there is none
abbrev pub next_after : {X : Type 0} → ℕ → X → Option X
next_after zero new = None
next_after (suc n) new = Some new

module _ (name : Kind → Bytes → Bytes) where
  -- After an import the next text is that of the new repository, which is sound, and what was imported is told.
  abbrev pub IsAnswer : Records → Result Report ImportFault → Answer → Type 0
  IsAnswer new (Ok report) answer = IsSound name new × (answer ≡ (Some new, Ok report))
  IsAnswer new (Err fault) answer = IsSound name new × (answer ≡ (next_after fault.checkpoints new, Err (Import fault)))

  -- The import of a stream into a repository, where these features are asked for. It brings no gitlink of forty zeros, and no
  -- header but that of an encoding.
  abbrev pub ImportsOpened : Features → Records → Option Coming → Option Taken → Option Taken → Answer → Type 0
  ImportsOpened asks old coming was now answer =
      (new : Records) × (given : Result Report ImportFault) × Imports asks name old new coming was now given × KeepsSayable old new × IsAnswer new given answer

  -- the same into the store that a text was read as
  abbrev pub ImportsStored : Features → Stored Records → Option Coming → Option Taken → Option Taken → Answer → Type 0
  ImportsStored asks (Ok old) coming was now answer = ((answer ≡ (None, Err (Store file.OutOfMemory))) × (now ≡ was)) ⊎ ImportsOpened asks old coming was now answer
  ImportsStored asks (Err f) coming was now answer =
      (why : FileFault) × ((why ≡ file.OutOfMemory) ⊎ (f ≡ why)) × (answer ≡ (None, Err (Store why))) × (now ≡ was)

  -- The import of a sound repository's export, in any form, into an empty store makes that repository again, as far as its refs
  -- reach. A gitlink of forty zeros is left out, and a header that isn't that of an encoding: no import takes or brings them.
  abbrev pub ImportsAgain : Features → Stored Records → Option Coming → Answer → Type 0
  ImportsAgain asks stored None answer = ⊤
  ImportsAgain asks stored (Some coming) answer =
      (form : ExportForm) (exported : Records) → LeaveForm form asks → IsSound name exported → HasSayable (history_of exported)
      → GivesForm name form exported coming → stored ≡ Ok empty_repository
      → IsInterrupted answer ⊎ ((new : Records) × (report : Report) × IsExported exported new × IsSound name new × (answer ≡ (Some new, Ok report)))
