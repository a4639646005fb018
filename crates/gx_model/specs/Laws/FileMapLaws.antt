-- The laws of file maps and of their edits. Source: git-fast-import(1), "filemodify", "filedelete", "filecopy" and "filerename".
use Rattle.std.specs.Prelude.{◌≡◌, ◌≢◌, ◌↔◌, false, ◌∷◌, ◌++◌, [], Ok, Err, Some, None, is_some, IsTrue, IfOk}
use Rattle.std.specs.declared.cmp.Ordering.TheVariants.{Less}
use Rattle.std.specs.List.{list_all}
use Rattle.gx_model.specs.declared.faults.Fault.{Fault}
use Rattle.gx_model.specs.declared.faults.Fault.TheVariants.{NoSuchPath, RootNotTree, PathTooLong}
use Rattle.gx_model.specs.Texts.{Bytes}
use Rattle.gx_model.specs.Texts.Paths.{Path, are_in_line, begins, is_component, is_file_path, is_short, path_cmp}
use Rattle.gx_model.specs.Histories.Files.{FileMap, Leaf, file_at, is_file_map}
use Rattle.gx_model.specs.Histories.Edits.{copied, modified, removed, renamed}

-- a list of entries is a file map
abbrev pub IsFileMap : FileMap Bytes → Type 0
IsFileMap files = IsTrue (is_file_map files)

-- a file is at this path
abbrev pub HasFile : FileMap Bytes → Path → Type 0
HasFile files path = IsTrue (is_some (file_at files path))

-- what is known of a file map is what it gives at each path
pub record FileMapsAreMaps : Type 0 where
  -- two that give the same at every path are one
  pub same : (files others : FileMap Bytes) → IsFileMap files → IsFileMap others → ((path : Path) → file_at files path ≡ file_at others path) → files ≡ others
  -- the entries stand in the byte order of whole paths
  pub rising : (before between after : FileMap Bytes) (entry later : Path × Leaf Bytes) → IsFileMap (before ++ entry ∷ between ++ later ∷ after) → path_cmp entry.0 later.0 ≡ Less
  -- no path of a file begins another one's
  pub apart : (files : FileMap Bytes) (path other : Path) → IsFileMap files → HasFile files path → HasFile files other → IsTrue (begins path other) → path ≡ other

-- ---- edits

-- an edit of a file map that isn't refused gives a file map
pub record EditsKeepFileMaps : Type 0 where
  pub modify : (files : FileMap Bytes) (path : Path) (leaf : Leaf Bytes) → IsFileMap files → IsTrue (is_file_path path) → IfOk (modified files path leaf) IsFileMap
  pub remove : (files : FileMap Bytes) (path : Path) → IsFileMap files → IsFileMap (removed files path)
  pub copy : (files : FileMap Bytes) (source dest : Path) → IsFileMap files → IsTrue (list_all is_component dest) → IfOk (copied files source dest) IsFileMap
  pub rename : (files : FileMap Bytes) (source dest : Path) → IsFileMap files → IsTrue (list_all is_component dest) → IfOk (renamed files source dest) IsFileMap

-- the leaf is at the path, nothing else is in line with the path, and elsewhere stands what stood
pub record IsModified (files : FileMap Bytes) (path : Path) (leaf : Leaf Bytes) (now : FileMap Bytes) : Type 0 where
  pub there : file_at now path ≡ Some leaf
  pub in_line : (other : Path) → IsTrue (are_in_line path other) → path ≢ other → file_at now other ≡ None
  pub elsewhere : (other : Path) → are_in_line path other ≡ false → file_at now other ≡ file_at files other

-- nothing is at or below the path, and elsewhere stands what stood
pub record IsRemoved (files : FileMap Bytes) (path : Path) (now : FileMap Bytes) : Type 0 where
  pub there : (other : Path) → IsTrue (begins path other) → file_at now other ≡ None
  pub elsewhere : (other : Path) → begins path other ≡ false → file_at now other ≡ file_at files other

-- at and below the destination is what was so at the source, nothing is above it, and what isn't in line with it is the rest's
pub record IsPlaced (files rest : FileMap Bytes) (source dest : Path) (now : FileMap Bytes) : Type 0 where
  pub there : (below : Path) → file_at now (dest ++ below) ≡ file_at files (source ++ below)
  pub above : (other : Path) → IsTrue (begins other dest) → dest ≢ other → file_at now other ≡ None
  pub elsewhere : (other : Path) → are_in_line dest other ≡ false → file_at now other ≡ file_at rest other

-- a file would be put at the root
abbrev pub IsFileForRoot : FileMap Bytes → Path → Path → Type 0
IsFileForRoot files source dest = HasFile files source × (dest ≡ [])

-- a file would be put at a path that is too long
abbrev pub HasLongPath : FileMap Bytes → Path → Path → Type 0
HasLongPath files source dest = (below : Path) × HasFile files (source ++ below) × (is_short (dest ++ below) ≡ false)

-- why a copy or a rename is refused: nothing is at or below the source, or else one of the others, in this order
abbrev pub IsRefusal : FileMap Bytes → Path → Path → Fault → Type 0
IsRefusal files source dest NoSuchPath = (below : Path) → file_at files (source ++ below) ≡ None
IsRefusal files source dest RootNotTree = IsFileForRoot files source dest
IsRefusal files source dest PathTooLong = ¬ (IsFileForRoot files source dest) × HasLongPath files source dest
IsRefusal files source dest _ = ⊥

-- what is found after an edit, by what was found before it, and what is refused
pub record EditsAreSetOperations : Type 0 where
  pub modify : (files : FileMap Bytes) (path : Path) (leaf : Leaf Bytes) → IsFileMap files → IsTrue (is_file_path path)
      → (now : FileMap Bytes) × (modified files path leaf ≡ Ok now) × IsModified files path leaf now
  pub modify_root : (files : FileMap Bytes) (leaf : Leaf Bytes) → modified files [] leaf ≡ Err RootNotTree
  pub remove : (files : FileMap Bytes) (path : Path) → IsRemoved files path (removed files path)
  pub copy : (files : FileMap Bytes) (source dest : Path) → IsFileMap files → IsTrue (list_all is_component dest) → IfOk (copied files source dest) (IsPlaced files files source dest)
  pub copy_refused : (files : FileMap Bytes) (source dest : Path) (fault : Fault) → (copied files source dest ≡ Err fault) ↔ IsRefusal files source dest fault
  -- what was at or below the source is taken out first
  pub rename : (files : FileMap Bytes) (source dest : Path) → IsFileMap files → IsTrue (list_all is_component dest) → IfOk (renamed files source dest) (IsPlaced files (removed files source) source dest)
  pub rename_refused : (files : FileMap Bytes) (source dest : Path) (fault : Fault) → (renamed files source dest ≡ Err fault) ↔ IsRefusal files source dest fault
