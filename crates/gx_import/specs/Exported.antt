-- What the import of an export's text makes of an empty repository.
-- Source: git-fast-export(1) and git-fast-import(1).
use Rattle.std.specs.Prelude.{◌≡◌, ◌⊎◌, ◌+◌, length, Option, Some, None, Result, Ok, Err, false, ⊤}
use Rattle.std.specs.List.{AllByRecursion}
use Rattle.gx_model.specs.declared.objects.Kind.{Kind}
use Rattle.gx_model.specs.Texts.{Bytes}
use Rattle.gx_model.specs.Histories.{IsHistory, Records, empty_repository}
use Rattle.gx_model.specs.Records.HistoryOf.{history_of}
use Rattle.gx_model.specs.Records.Sound.{AnyByRecursion, IsSound}
use Rattle.gx_model.specs.Export.{export_text, reached_commits}
use Rattle.gx_model.specs.declared.features.Features.{Features}
use Rattle.gx_model.specs.Laws.ExportLaws.{HasNoNullGitlink, HasSayable, HaveEncodingsAlone, IsAgain}
use Rattle.gx_model.specs.Streams.Gitlinks.{HoldsSayable, commands_before_null}
use Rattle.gx_text.specs.Devices.{Coming}
use Rattle.gx_stream.specs.Heard.{heard}
use Rattle.gx_repo.specs.Repositories.{Repository}
use Rattle.gx_import.specs.declared.fault.ImportFault.{ImportFault}
use Rattle.gx_model.specs.declared.faults.Fault.TheVariants.{OutOfMemory, Unsupported, WriteFailed}
use Rattle.gx_import.specs.declared.report.Report.{Report}

-- where a stream could say each commit, it can say each
abbrev pub KeepsSayable : Records → Records → Type 0
KeepsSayable old new = HoldsSayable (history_of old) → HoldsSayable (history_of new)

-- the same, where the old repository has the history that its records and refs tell
abbrev pub MakesSayable : Records → Records → Type 0
MakesSayable old new = IsHistory (history_of old) → KeepsSayable old new

-- features that leave the import of an export as it is, which asks for `done` itself
abbrev pub LeaveExports : Features → Type 0
LeaveExports features = features.force ≡ false

-- a source that gives the export text of this repository, and then ends
abbrev pub GivesExport : Records → Coming → Type 0
GivesExport exported coming = heard coming ≡ record { bytes = export_text (history_of exported); fails = false }

-- The new repository has the refs of the exported one, under the same object names; of its history it has exactly what these
-- refs reach, with the commits in their order; its records are records of the exported one; and its export is the same text.
pub record IsExported (exported new : Records) : Type 0 where
  pub refs : new.refs ≡ exported.refs
  pub history : IsAgain (history_of exported) (history_of new)
  pub records : AllByRecursion (λ held. AnyByRecursion (λ other. other ≡ held) exported.records) new.records
  pub text : export_text (history_of new) ≡ export_text (history_of exported)

-- The export is imported, or memory ran out, or the sink of progress texts failed. It asks for no checkpoint.
abbrev pub ExportedOr : Records → Records → Result Report ImportFault → Type 0
ExportedOr exported new (Ok report) = IsExported exported new
ExportedOr exported new (Err fault) = ((fault.kind ≡ OutOfMemory) ⊎ (fault.kind ≡ WriteFailed)) × (fault.checkpoints ≡ 0)

-- The export of a sound repository under this namer is imported into an empty one, unless memory runs out or
-- the sink fails. A gitlink of forty zeros is left out, and a header that isn't that of an encoding: no import takes or brings them.
abbrev pub ImportsExport : (Kind → Bytes → Bytes) → Records → Records → Option Coming → Result Report ImportFault → Type 0
ImportsExport name old new None result = ⊤
ImportsExport name old new (Some coming) result =
    (exported : Records) → IsSound name exported → HasSayable (history_of exported) → GivesExport exported coming → old ≡ empty_repository → ExportedOr exported new result

-- The first command of the exported history that brings a gitlink of forty zeros is refused as not supported, or memory ran out, or
-- the sink of progress texts failed.
abbrev pub UnsupportedOr : Records → Result Report ImportFault → Type 0
UnsupportedOr exported (Ok report) = ⊥
UnsupportedOr exported (Err fault) =
    ((fault.kind ≡ Unsupported) × (fault.command ≡ length (commands_before_null (history_of exported)) + 1))
    ⊎ ((fault.kind ≡ OutOfMemory) ⊎ (fault.kind ≡ WriteFailed))

-- Where refs of a sound repository under this namer reach a gitlink of forty zeros, and no headers but those of encodings, an empty
-- one refuses its export.
abbrev pub RefusesItsExport : (Kind → Bytes → Bytes) → Records → Option Coming → Result Report ImportFault → Type 0
RefusesItsExport name old None result = ⊤
RefusesItsExport name old (Some coming) result =
    (exported : Records) → IsSound name exported → (HasNoNullGitlink (history_of exported) → ⊥) → HaveEncodingsAlone (reached_commits (history_of exported))
    → GivesExport exported coming → old ≡ empty_repository → UnsupportedOr exported result

module _ {N : Type 0} (names : N → Kind → Bytes → Bytes) where
  -- an empty repository imports the export of any sound one of which a stream can say what its refs reach
  abbrev pub ImportsAnyExport : Repository N → Repository N → Option Coming → Result Report ImportFault → Type 0
  ImportsAnyExport old new = ImportsExport (names old.0) old.1 new.1

  -- an empty repository refuses the export of any sound one whose refs reach a gitlink of forty zeros
  abbrev pub RefusesNullGitlink : Repository N → Option Coming → Result Report ImportFault → Type 0
  RefusesNullGitlink old = RefusesItsExport (names old.0) old.1
