-- What differs between two held trees: the blobs that go out, and the lines that are gathered.
use Rattle.std.specs.Prelude.{◌≡◌, ◌≢◌, ◌++◌, [], ◌∷◌, ℕ, map, List, Option, Some, None, Result, Ok, Err, ⊤}
use Rattle.std.specs.List.{flat_map, AllByRecursion}
use Rattle.gx_model.specs.declared.objects.Kind.{Kind}
use Rattle.gx_model.specs.declared.objects.Kind.TheVariants as kinds
use Rattle.gx_model.specs.declared.objects.Mode.TheVariants.{Dir}
use Rattle.gx_model.specs.Changes.{base_files, changed_files, gone_paths, own_files}
use Rattle.gx_model.specs.Export.{change_items, contents, items_text, with_blobs}
use Rattle.gx_model.specs.Histories.Files.{FileMap}
use Rattle.gx_model.specs.Histories.Values.{Commit, Value, files_of, list_of, parents_of}
use Rattle.gx_model.specs.Histories.{Records}
use Rattle.gx_model.specs.Objects.{Entry as TreeEntry}
use Rattle.gx_model.specs.Records.HistoryOf.{named_values}
use Rattle.gx_model.specs.Streams.Commands.{Remove}
use Rattle.gx_model.specs.Streams.Items.{Item}
use Rattle.gx_model.specs.Texts.{Bytes}
use Rattle.gx_model.specs.Texts.Paths.{Path}
use Rattle.gx_object.specs.declared.entry.Entry.{Entry}
use Rattle.gx_object.specs.declared.name.Name.{Name}
use Rattle.gx_rev.specs.Objects.{commit_at, entries_at}
use Rattle.gx_rev.specs.Objects as objects
use Rattle.gx_model.specs.Records.Sound.{IsHeldAs}
use Rattle.gx_model.specs.Records.{entry, parts_of_commit}
use Rattle.gx_tree.specs.Lists.{below}
use Rattle.gx_tree.specs.Nodes.{Kept, Level, key}
use Rattle.gx_tree.specs.Writes.{kept_leaf}
use Rattle.gx_export.specs.FileTexts.{AreKept, IsEntryBelow, IsGathered, IsTreeBelow, bytes_in}
use Rattle.gx_export.specs.Marks.{AddsBlobs}
use Rattle.gx_export.specs.Pairs.{shown_pair}
use Rattle.gx_export.specs.Texts.{file_items}
use Rattle.gx_export.specs.declared.changes.Changes.{Changes}
use Rattle.gx_export.specs.declared.fault.ExportFault.{ExportFault}
use Rattle.gx_export.specs.declared.pairs.Pair.{Pair}
use Rattle.gx_export.specs.declared.written.Written.{Written}

-- ---- the lines of what is gone

abbrev pub gone_items : List Path → List Item
gone_items paths = flat_map change_items (map Remove paths)

abbrev pub gone_text : List Path → Bytes
gone_text paths = items_text (gone_items paths)

-- the line of one path more, and all other lines as they were
pub record AddsGone {A : Type 0} (path : Path) (old new : Changes A) : Type 0 where
  pub gone : new.gone.items ≡ old.gone.items ++ gone_text (path ∷ [])
  pub files : new.files ≡ old.files

-- paths below a path
abbrev pub paths_below : Path → List Path → List Path
paths_below front paths = map (λ p. front ++ p) paths

-- ---- trees that may be there

abbrev pub IsTreeIf : Records → Option Name → Type 0
IsTreeIf repository None = ⊤
IsTreeIf repository (Some tree) = objects.IsHeldAs kinds.Tree repository tree

-- the entries of a held tree, and none without one
abbrev pub entries_if : Records → Option Name → List TreeEntry
entries_if repository None = []
entries_if repository (Some tree) = entries_at repository tree

-- the tree's name of a commit that may be there
abbrev pub tree_if : (Kind → Bytes → Bytes) → Records → Option Name → Option Bytes
tree_if name repository None = None
tree_if name repository (Some commit) = Some (parts_of_commit name (commit_at repository commit)).tree

-- a file's object is held, where there is an entry, which is no directory's
abbrev pub HasFileIf : Records → Option Entry → Type 0
HasFileIf repository None = ⊤
HasFileIf repository (Some e) = (e.mode ≢ Dir) × IsHeldAs repository.records e.mode e.name.bytes

-- the old entry, or else the new one
abbrev pub or_other : Option Entry → Option Entry → Option Entry
or_other None d = d
or_other (Some e) d = Some e

-- what an entry is and names, of what stands there
abbrev pub told_entry : (Kind → Bytes → Bytes) → Bytes × Kept → TreeEntry
told_entry name e = entry name e.0 (kept_leaf name e.1)

-- what stands at one component of two directories: a file or a directory of either, or two files or two directories
abbrev pub IsPair : Level × Level → Type 0
IsPair (e ∷ [], []) = ⊤
IsPair ([], d ∷ []) = ⊤
IsPair (e ∷ [], d ∷ []) = key e.0 e.1 ≡ key d.0 d.1
IsPair _ = ⊥

module _ (name : Kind → Bytes → Bytes) (repository : Records) (room : ℕ) (front : Path) where
  -- the files of a tree that may be there are held, and their paths below a path are short
  abbrev pub IsBelowIf : Option Bytes → FileMap Bytes → Type 0
  IsBelowIf None f = f ≡ []
  IsBelowIf (Some tree) f = IsTreeBelow name repository room front tree f

  -- entries of two such trees at one component
  pub record IsPairBelow (pair : Pair) (p : Level × Level) : Type 0 where
    pub shape : IsPair p
    pub olds : AllByRecursion (IsEntryBelow name repository room front) p.0
    pub news : AllByRecursion (IsEntryBelow name repository room front) p.1
    pub told : shown_pair pair ≡ (map (told_entry name) p.0, map (told_entry name) p.1)

-- ---- what is gathered

-- the file at a path, where there is one, and the path, where there is none
abbrev pub file_if : Path → Option Entry → FileMap Bytes
file_if path None = []
file_if path (Some e) = (path, (e.mode, e.name.bytes)) ∷ []

abbrev pub path_unless : Path → Option Entry → List Path
path_unless path None = path ∷ []
path_unless path (Some e) = []

-- the blobs of files went out, and the lines of these and of paths that are gone stand behind those gathered before
pub record IsCompared {W A : Type 0} (name : Kind → Bytes → Bytes) (repository : Records) (ws : List Value)
    (names : FileMap Bytes) (paths : List Path) (old new : Written W A) (before after : Changes A) : Type 0 where
  pub gathered : IsGathered name repository ws names old new before.files after.files
  pub gone : after.gone.items ≡ before.gone.items ++ gone_text paths

-- Or the export stops within the blobs.
abbrev pub Compares : {W A : Type 0} → (Kind → Bytes → Bytes) → Records → List Value → FileMap Bytes → List Path
    → Written W A → Written W A → Changes A → Changes A → Result (Unit {0}) ExportFault → Type 0
Compares name repository ws names gone old new before after (Ok _) =
    IsCompared name repository ws names gone old new before after
Compares name repository ws names gone old new before after (Err fault) =
    AddsBlobs repository ws (bytes_in (named_values repository.records) names) old new (Err fault)

-- what differs between two maps of names, below a path
abbrev pub ComparesMaps : {W A : Type 0} → (Kind → Bytes → Bytes) → Records → List Value → Path → FileMap Bytes
    → FileMap Bytes → Written W A → Written W A → Changes A → Changes A → Result (Unit {0}) ExportFault → Type 0
ComparesMaps name repository ws front f g old new before after result =
    Compares name repository ws (below front (changed_files f g)) (paths_below front (gone_paths f g)) old new before after result

-- the blobs of a commit's files that differ went out, and all lines of what differs are gathered
pub record IsOfChanges {W A : Type 0} (name : Kind → Bytes → Bytes) (repository : Records) (ws : List Value)
    (c : Commit) (old new : Written W A) (changes : Changes A) : Type 0 where
  pub adds : AddsBlobs repository ws (contents (own_files c)) old new (Ok tt)
  pub files : changes.files.text.items ≡ items_text (file_items (with_blobs ws (contents (own_files c))) (own_files c))
  pub gone : changes.gone.items ≡ gone_text (gone_paths (base_files (list_of (parents_of c))) (files_of c))
  pub kept : AreKept name repository (with_blobs ws (contents (own_files c))) changes.files

-- Or the export stops within the blobs.
abbrev pub GathersChanges : {W A : Type 0} → (Kind → Bytes → Bytes) → Records → List Value → Commit
    → Written W A → Written W A → Changes A → Result (Unit {0}) ExportFault → Type 0
GathersChanges name repository ws c old new changes (Ok _) = IsOfChanges name repository ws c old new changes
GathersChanges name repository ws c old new changes (Err fault) =
    AddsBlobs repository ws (contents (own_files c)) old new (Err fault)
