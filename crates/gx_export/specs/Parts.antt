-- What each part of an export does, whatever was written before it.
use Rattle.std.specs.Prelude.{◌≡◌, [], ℕ, Bool, List, map, Result, OnOk}
use Rattle.std.specs.List.{AllByRecursion}
use Rattle.gx_model.specs.declared.objects.Kind.{Kind}
use Rattle.gx_model.specs.declared.objects.Kind.TheVariants as kinds
use Rattle.gx_model.specs.Export.{items_text}
use Rattle.gx_model.specs.Histories.Files.{FileMap}
use Rattle.gx_model.specs.Histories.{Records}
use Rattle.gx_model.specs.Records.Sound.{Holds}
use Rattle.gx_model.specs.Records.HistoryOf.{commit_of_value, value_of_name}
use Rattle.gx_model.specs.Streams.Items.{Item}
use Rattle.gx_model.specs.Objects.NameMaps.{IsHeldTree}
use Rattle.gx_model.specs.Texts.Paths.{Path}
use Rattle.gx_model.specs.Texts.{Bytes}
use Rattle.gx_model.specs.Histories.Values.{Commit, Value}
use Rattle.gx_object.specs.declared.name.Name.{Name}
use Rattle.gx_tree.specs.Lists.{below}
use Rattle.gx_rev.specs.Reached.{reached_marks}
use Rattle.gx_export.specs.FileTexts.{AreKept, Gathers, IsTreeBelow}
use Rattle.gx_export.specs.Marks.{Adds, HasWritten}
use Rattle.gx_export.specs.Texts.{file_items}
use Rattle.gx_export.specs.declared.fault.ExportFault.{ExportFault}
use Rattle.gx_export.specs.declared.lines.Lines.{Lines}
use Rattle.gx_export.specs.declared.written.Written.{Written}

-- the commits of these names
abbrev pub commits_called : Records → List Bytes → List Commit
commits_called repository names = map (λ name. commit_of_value (value_of_name repository.records name)) names

-- ---- items, by the marks of what was written

-- Items go out, and no more values are written; or the export stops within the items.
abbrev pub AddsItems : {W A : Type 0} → Records → (List Value → List Item) → Written W A → Written W A
    → Result (Unit {0}) ExportFault → Type 0
AddsItems repository items old new result =
    (ws : List Value) → HasWritten repository ws old → Adds repository ws (items ws) old new result

-- the same of items that have files in them, of which these are the lines
abbrev pub AddsLines : {W A : Type 0} → Records → Bytes → (List Value → FileMap Bytes → List Item) → Written W A
    → Written W A → Result (Unit {0}) ExportFault → Type 0
AddsLines repository lines items old new result =
    (ws : List Value) (files : FileMap Bytes) → HasWritten repository ws old → lines ≡ items_text (file_items ws files)
    → Adds repository ws (items ws files) old new result

-- ---- what is known before a part goes out

-- the commits that refs reach are marked, and no value was written yet
pub record IsToBegin {W A : Type 0} (repository : Records) (marks : List Bool) (state : Written W A) : Type 0 where
  pub reached : marks ≡ reached_marks repository
  pub written : HasWritten repository [] state

-- some values were written, and these parents of a commit that comes next are held
pub record IsUnderWayBehind {W A : Type 0} (repository : Records) (names : List Bytes) (state : Written W A) : Type 0 where
  pub parents : AllByRecursion (Holds repository.records kinds.Commit) names
  pub written : (ws : List Value) × HasWritten repository ws state

-- ---- values, and the lines of files

-- a repository by its namer and its records
module _ {N : Type 0} (name_of : N → Kind → Bytes → Bytes) (repo : N × Records) where
  -- some values were written, and with them lines are kept
  abbrev pub IsUnderWay : {W A : Type 0} → Written W A → Lines A → Type 0
  IsUnderWay written lines = (ws : List Value) × HasWritten repo.1 ws written × AreKept (name_of repo.0) repo.1 ws lines

  -- of all such values this holds
  abbrev pub WhileUnderWay : {W A : Type 0} → Written W A → Lines A → (List Value → Type 0) → Type 0
  WhileUnderWay written lines P =
      (ws : List Value) → HasWritten repo.1 ws written → AreKept (name_of repo.0) repo.1 ws lines → P ws

  -- then lines are kept with more values
  abbrev pub Keeps : {W A : Type 0} → Written W A → Lines A → Lines A → (List Value → List Value)
      → Result (Unit {0}) ExportFault → Type 0
  Keeps written old new us result =
      WhileUnderWay written old (λ ws. OnOk result (AreKept (name_of repo.0) repo.1 (us ws) new))

  -- the tree of this name is held with all its files, whose paths below this one are short
  abbrev pub HasTreeBelow : ℕ → Path → Name → Type 0
  HasTreeBelow room front tree = (g : FileMap Bytes) × IsTreeBelow (name_of repo.0) repo.1 room front tree.bytes g

  -- the files of the tree of this name are gathered, below a path
  abbrev pub GathersTree : {W A : Type 0} → Path → Name → Written W A → Written W A → Lines A → Lines A
      → Result (Unit {0}) ExportFault → Type 0
  GathersTree front tree old new before after result =
      (g : FileMap Bytes) → IsHeldTree (name_of repo.0) repo.1.records tree.bytes g
      → WhileUnderWay old before (λ ws. Gathers (name_of repo.0) repo.1 ws (below front g) old new before after result)
