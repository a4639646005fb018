-- What the import of an export's text, in any form, makes of an empty store.
-- Source: git-fast-export(1) and git-fast-import(1).
use Rattle.std.specs.Prelude.{◌≡◌, ◌⊎◌, true, false, Option, Some, None, Result, IfErr, ⊤}
use Rattle.gx_model.specs.declared.objects.Kind.{Kind}
use Rattle.gx_model.specs.declared.features.Features.{Features}
use Rattle.gx_model.specs.Texts.{Bytes}
use Rattle.gx_model.specs.Texts.Sinks.{Taken}
use Rattle.gx_model.specs.Histories.{Records, empty_repository}
use Rattle.gx_model.specs.Laws.ExportLaws.{HasSayable}
use Rattle.gx_model.specs.Records.HistoryOf.{history_of}
use Rattle.gx_model.specs.Records.Sound.{IsSound}
use Rattle.gx_text.specs.Devices.{Coming}
use Rattle.gx_stream.specs.Heard.{heard}
use Rattle.gx_import.specs.Exported.{ExportedOr, ImportsExport, LeaveExports}
use Rattle.gx_import.specs.Imports.{Imports}
use Rattle.gx_import.specs.Stopping.{StopsReplay}
use Rattle.gx_import.specs.declared.fault.ImportFault.{ImportFault}
use Rattle.gx_import.specs.declared.report.Report.{Report}
use Rattle.gx_asks.specs.declared.question.ExportForm.{ExportForm}
use Rattle.gx_asks.specs.declared.question.ExportForm.TheVariants.{Changes, FullTree}
use Rattle.gx_cli.specs.Forms.{text_as}

-- Features that leave the import of an export in this form as it is. All files are exported with `done`; of changes, `done` is
-- asked for only where the text has it.
abbrev pub LeaveForm : ExportForm → Features → Type 0
LeaveForm FullTree features = LeaveExports features
LeaveForm (Changes done) features = LeaveExports features × ((features.done ≡ false) ⊎ (done ≡ true))

-- a source that gives the text of this repository's export in a form, and then ends
abbrev pub GivesForm : (Kind → Bytes → Bytes) → ExportForm → Records → Coming → Type 0
GivesForm name form exported coming = heard coming ≡ record { bytes = text_as name form (history_of exported); fails = false }

module _ (name : Kind → Bytes → Bytes) where
  -- The export of a sound repository under this namer, in any form, is imported into an empty one, unless memory runs out or the
  -- sink fails. A gitlink of forty zeros is left out, and a header that isn't that of an encoding: no import takes or brings them.
  abbrev pub ImportsForms : Features → Records → Records → Option Coming → Result Report ImportFault → Type 0
  ImportsForms asks old new None result = ⊤
  ImportsForms asks old new (Some coming) result =
      (form : ExportForm) (exported : Records) → LeaveForm form asks → IsSound name exported → HasSayable (history_of exported)
      → GivesForm name form exported coming → old ≡ empty_repository → ExportedOr exported new result

  -- an import that is what the replay gives, and takes the export with all files, takes it in any form
  abbrev pub FormsAreImported : Type 0
  FormsAreImported =
      (asks : Features) (old new : Records) (coming : Option Coming) (was now : Option Taken) (result : Result Report ImportFault)
      → IsSound name new → Imports asks name old new coming was now result → IfErr result (StopsReplay asks name old coming)
      → (LeaveExports asks → ImportsExport name old new coming result) → ImportsForms asks old new coming result
