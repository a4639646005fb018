-- What an import over a small repository gives the whole one. Source: git-fast-import(1).
use Rattle.std.specs.Prelude.{◌≡◌, ℕ, Bool, List, ◌++◌, length, Option, Some, None, ⊤}
use Rattle.std.specs.List.{flat_map}
use Rattle.gx_model.specs.declared.features.Features.{Features}
use Rattle.gx_model.specs.declared.objects.Kind.{Kind}
use Rattle.gx_model.specs.Texts.{Bytes}
use Rattle.gx_model.specs.Histories.{History, Record, Records, StandsFor}
use Rattle.gx_model.specs.Records.HistoryOf.{history_of}
use Rattle.gx_model.specs.Records.Sound.{IsSound}
use Rattle.gx_model.specs.Replay.{finished, imported_asked}
use Rattle.gx_model.specs.Stores.StoreText.{stored_ref}
use Rattle.gx_import.specs.Imports.{report_of}
use Rattle.gx_import.specs.declared.report.Report.{Report}

-- the import of a text into a repository is accepted, with this progress and report, and makes this repository of it
pub record TakesText (name : Kind → Bytes → Bytes) (asks : Features) (old new : Records) (text : Bytes) (fails : Bool) (progress : Bytes) (report : Report) : Type 0 where
  pub accepted : imported_asked asks name (history_of old) text fails ≡ finished (history_of new) progress (report_of report)
  pub stands : StandsFor name new (history_of new)

-- The import of a text into a repository is accepted, with this progress and report. What it gives has these records behind those of
-- the repository, and the refs of these lines, so many: it is sound, and stands for the history that is given.
pub record GivesWhole (name : Kind → Bytes → Bytes) (asks : Features) (whole : Records) (text : Bytes) (fails : Bool) (new : List Record)
    (refs : Bytes) (count : ℕ) (progress : Bytes) (report : Report) : Type 0 where
  pub named : List (Bytes × Bytes)
  pub lines : refs ≡ flat_map stored_ref named
  pub counted : count ≡ length named
  pub takes : TakesText name asks whole (record { records = whole.records ++ new; refs = named }) text fails progress report
  pub sound : IsSound name (record { records = whole.records ++ new; refs = named })

-- of what tells no repository, nothing is claimed
abbrev pub GivesTold : (Kind → Bytes → Bytes) → Features → Option Records → Bytes → Bool → List Record → Bytes → ℕ → Bytes → Report → Type 0
GivesTold name asks None text fails new refs count progress report = ⊤
GivesTold name asks (Some whole) text fails new refs count progress report = GivesWhole name asks whole text fails new refs count progress report
