-- The lines of files as they are gathered, and the trees that the files stand in.
use Rattle.std.specs.Prelude.{◌≡◌, ◌≤◌, ◌++◌, [], ◌∷◌, ℕ, Bool, true, false, length, List, Option, Result, Ok, Err, IfSome, IsTrue}
use Rattle.std.specs.List.{list_all, slice_range, AllByRecursion}
use Rattle.gx_model.specs.declared.objects.Kind.{Kind}
use Rattle.gx_model.specs.declared.objects.Mode.{Mode}
use Rattle.gx_model.specs.Export.{contents, items_text, with_blobs}
use Rattle.gx_model.specs.Histories.Files.{FileMap}
use Rattle.gx_model.specs.Histories.{Records, is_in}
use Rattle.gx_model.specs.Records.HistoryOf.{Named, contents_of, named_values}
use Rattle.gx_model.specs.Objects.NameMaps.{IsHeldTree}
use Rattle.gx_model.specs.Texts.Paths.{Path, is_component, is_short, path_of, path_text, printed}
use Rattle.gx_model.specs.Records.Sound.{IsHeldAs}
use Rattle.gx_model.specs.Texts.{Bytes}
use Rattle.gx_model.specs.Histories.Values.{Value, blob_value}
use Rattle.gx_object.specs.declared.entry.Entry.{Entry}
use Rattle.gx_object.specs.declared.name.Name.{Name}
use Rattle.gx_tree.specs.HeldTrees.{IsHeldEntry, IsHeldWithin}
use Rattle.gx_tree.specs.Lists.{below}
use Rattle.gx_tree.specs.Nodes.{Kept, kept_map}
use Rattle.gx_export.specs.Marks.{AddsBlobs}
use Rattle.gx_export.specs.Texts.{file_items, file_line}
use Rattle.gx_export.specs.declared.fault.ExportFault.{ExportFault}
use Rattle.gx_export.specs.declared.file_lines.FileLine.{FileLine}
use Rattle.gx_export.specs.declared.lines.Directory.{Directory}
use Rattle.gx_export.specs.declared.lines.Lines.{Lines}
use Rattle.gx_export.specs.declared.written.Written.{Written}

-- the bytes of files that are no gitlinks, by the names of what the files hold
abbrev pub bytes_in : Named → FileMap Bytes → List Bytes
bytes_in named names = contents (contents_of named names)

-- the text of the lines of files, by the names of what they hold
abbrev pub lines_text : Named → List Value → FileMap Bytes → Bytes
lines_text named ws names = items_text (file_items ws (contents_of named names))

-- the files of a tree and what they name are held, and their paths below a path are short
pub record IsTreeBelow (name : Kind → Bytes → Bytes) (repository : Records) (room : ℕ) (front : Path) (tree : Bytes) (g : FileMap Bytes) : Type 0 where
  pub within : IsHeldWithin name repository.records room tree g
  pub paths : IsTrue (list_all (λ e. is_short e.0) (below front g))
  pub held : AllByRecursion (λ e. IsHeldAs repository.records e.1.0 e.1.1) g

-- and so for an entry of such a tree
pub record IsEntryBelow (name : Kind → Bytes → Bytes) (repository : Records) (room : ℕ) (front : Path) (e : Bytes × Kept) : Type 0 where
  pub entry : IsHeldEntry name repository.records room e
  pub component : IsTrue (is_component e.0)
  pub short : IsTrue (is_short (front ++ e.0 ∷ []))
  pub paths : IsTrue (list_all (λ f. is_short f.0) (below (front ++ e.0 ∷ []) (kept_map e.1)))
  pub held : AllByRecursion (λ f. IsHeldAs repository.records f.1.0 f.1.1) (kept_map e.1)

-- ---- what is kept of the lines

-- the file of an entry, below a path
abbrev pub entry_file : Path → Entry → FileMap Bytes
entry_file front entry = (front ++ entry.component.now ∷ [], (entry.mode, entry.name.bytes)) ∷ []

-- each of these blobs was written
abbrev pub AreWritten : List Value → List Bytes → Type 0
AreWritten ws xs = AllByRecursion (λ x. is_in ws (blob_value x) ≡ true) xs

-- the lines of files whose blobs were all written
pub record IsLinesOf (repository : Records) (ws : List Value) (names : FileMap Bytes) (text : Bytes) : Type 0 where
  pub lines : text ≡ lines_text (named_values repository.records) ws names
  pub written : AreWritten ws (bytes_in (named_values repository.records) names)

-- a text is that of the lines of a tree's files, below a path that is written so
abbrev pub IsLinesOfTree : (Kind → Bytes → Bytes) → Records → List Value → Bytes → Bytes → Bytes → Type 0
IsLinesOfTree name repository ws path tree text =
    (front : Path) (g : FileMap Bytes) → path_of path ≡ Ok front → IsHeldTree name repository.records tree g → IsLinesOf repository ws (below front g) text

-- a text is the line of a file, below a path that is written so
abbrev pub IsLineIn : Records → List Value → Bytes → Entry → Bytes → Type 0
IsLineIn repository ws path entry text =
    (front : Path) → path_of path ≡ Ok front → IsLinesOf repository ws (entry_file front entry) text

-- the line of a file stands within the lines of its directory
pub record IsFileLine (repository : Records) (ws : List Value) (path text : Bytes) (line : FileLine) : Type 0 where
  pub order : line.start ≤ line.end
  pub within : line.end ≤ length text
  pub found : IsLineIn repository ws path line.entry (slice_range text line.start line.end)

-- A text is that of the lines of a tree's files, where the tree is known, and has the lines of single files.
pub record IsDirectoryText (name : Kind → Bytes → Bytes) (repository : Records) (ws : List Value) (path : Bytes) (tree : Option Name) (files : List FileLine) (text : Bytes) : Type 0 where
  pub whole : IfSome tree (λ t. IsLinesOfTree name repository ws path t.bytes text)
  pub each : AllByRecursion (IsFileLine repository ws path text) files

-- within a text, from one place to another, stand the lines of a directory
pub record StandsIn (name : Kind → Bytes → Bytes) (repository : Records) (ws : List Value) (text : Bytes) (start end : ℕ) (path : Bytes) (tree : Option Name) (files : List FileLine) : Type 0 where
  pub order : start ≤ end
  pub within : end ≤ length text
  pub lines : IsDirectoryText name repository ws path tree files (slice_range text start end)

abbrev pub IsKept : {A : Type 0} → (Kind → Bytes → Bytes) → Records → List Value → Bytes → Directory A → Type 0
IsKept name repository ws text directory = StandsIn name repository ws text directory.start directory.end directory.path.items directory.tree directory.files.items

-- all directories of both commits
pub record AreKept {A : Type 0} (name : Kind → Bytes → Bytes) (repository : Records) (ws : List Value) (lines : Lines A) : Type 0 where
  pub now : AllByRecursion (IsKept name repository ws lines.text.items) lines.directories.items
  pub earlier : AllByRecursion (IsKept name repository ws lines.earlier.items) lines.left.items

-- all directories of both commits are kept, whatever was written
abbrev pub IsAlwaysKept : {A : Type 0} → Lines A → Type 0
IsAlwaysKept lines = (name : Kind → Bytes → Bytes) (repository : Records) (ws : List Value) → AreKept name repository ws lines

abbrev pub StaysKept : {A : Type 0} → Lines A → Lines A → Type 0
StaysKept old new = (name : Kind → Bytes → Bytes) (repository : Records) (ws : List Value) → AreKept name repository ws old → AreKept name repository ws new

-- Behind what was gathered stand the lines of a tree's files, or nothing new.
abbrev pub TakesOver : {A : Type 0} → (Kind → Bytes → Bytes) → Records → List Value → Bytes → Bytes → Lines A → Lines A → Bool → Type 0
TakesOver name repository ws path tree old new true =
    AreKept name repository ws new
    × ((front : Path) (g : FileMap Bytes) → path_of path ≡ Ok front → IsHeldTree name repository.records tree g → (lines : Bytes) × (new.text.items ≡ old.text.items ++ lines) × IsLinesOf repository ws (below front g) lines)
TakesOver name repository ws path tree old new false = AreKept name repository ws new × (new.text ≡ old.text)

-- Behind it stands the line of a file, or nothing new.
abbrev pub TakesLine : {A : Type 0} → (Kind → Bytes → Bytes) → Records → List Value → Bytes → Entry → Lines A → Lines A → Bool → Type 0
TakesLine name repository ws path entry old new true =
    AreKept name repository ws new × ((lines : Bytes) × (new.text.items ≡ old.text.items ++ lines) × IsLineIn repository ws path entry lines)
TakesLine name repository ws path entry old new false = AreKept name repository ws new × (new.text ≡ old.text)

-- the line of a file stands behind those that were gathered before
abbrev pub AppendsLine : {A : Type 0} → Lines A → Lines A → Mode → Bytes → Path → Type 0
AppendsLine old new mode dataref path = new.text.items ≡ old.text.items ++ items_text (file_line mode dataref (printed (path_text path)) ∷ [])

-- ---- what is gathered

-- the blobs of files went out, and the lines of the files stand behind those that were gathered before
pub record IsGathered {W A : Type 0} (name : Kind → Bytes → Bytes) (repository : Records) (ws : List Value)
    (names : FileMap Bytes) (old new : Written W A) (before after : Lines A) : Type 0 where
  pub adds : AddsBlobs repository ws (bytes_in (named_values repository.records) names) old new (Ok tt)
  pub text : after.text.items ≡ before.text.items ++ lines_text (named_values repository.records) (with_blobs ws (bytes_in (named_values repository.records) names)) names
  pub kept : AreKept name repository (with_blobs ws (bytes_in (named_values repository.records) names)) after

-- Or the export stops within the blobs.
abbrev pub Gathers : {W A : Type 0} → (Kind → Bytes → Bytes) → Records → List Value → FileMap Bytes
    → Written W A → Written W A → Lines A → Lines A → Result (Unit {0}) ExportFault → Type 0
Gathers name repository ws names old new before after (Ok _) = IsGathered name repository ws names old new before after
Gathers name repository ws names old new before after (Err fault) =
    AddsBlobs repository ws (bytes_in (named_values repository.records) names) old new (Err fault)
