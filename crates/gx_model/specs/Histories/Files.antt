-- File maps: finite maps from whole paths to a mode and a content. Source: git-fast-import(1), "filemodify", on modes, contents and paths.
-- A file map is the list of its entries in the byte order of whole paths. Contents are bytes, or names in a tree's map.
use Rattle.std.specs.Prelude.{ℕ, Bool, true, not, ◌&&◌, List, [], ◌∷◌, map, length, drop, max, if◌then◌else◌, Option}
use Rattle.std.specs.List.{list_all, filter}
use Rattle.std.specs.FinMap.Entries.{is_sorted}
use Rattle.std.specs.Map.{lookup}
use Rattle.gx_model.specs.declared.objects.Mode.{Mode}
use Rattle.gx_model.specs.Texts.{Bytes, same_bytes}
use Rattle.gx_model.specs.Texts.Paths.{Path, are_in_line, begins, is_file_path, path_cmp, same_path}

-- the first component of a path
abbrev pub first_component : Path → Bytes
first_component [] = []
first_component (c ∷ p) = c

-- a component before these, unless it is the first of them
abbrev pub with_first : Bytes → List Bytes → List Bytes
with_first c [] = c ∷ []
with_first c (d ∷ ds) = if same_bytes c d then d ∷ ds else c ∷ d ∷ ds

module _ (Content : Type 0) where
  -- what stands at the path of a file
  abbrev pub Leaf : Type 0
  Leaf = Mode × Content

  -- the entries of a file map, in order
  abbrev pub FileMap : Type 0
  FileMap = List (Path × Leaf)

module _ {X : Type 0} where
  -- no path is in line with a later one
  abbrev pub are_apart : List (Path × X) → Bool
  are_apart [] = true
  are_apart (e ∷ es) = list_all (λ later. not (are_in_line e.0 later.0)) es && are_apart es

  -- each path is one of a file
  abbrev pub are_file_paths : List (Path × X) → Bool
  are_file_paths files = list_all (λ entry. is_file_path entry.0) files

  -- the paths of files, apart from each other, in order
  abbrev pub is_file_map : List (Path × X) → Bool
  is_file_map files = are_file_paths files && are_apart files && is_sorted path_cmp files

  -- what stands at a path
  abbrev pub file_at : List (Path × X) → Path → Option X
  file_at files path = lookup (same_path path) files

  -- what is at or below a path
  abbrev pub under : Path → List (Path × X) → List (Path × X)
  under path = filter (λ entry. begins path entry.0)

  -- what is at or below a path, with that path taken off
  abbrev pub sub_map : List (Path × X) → Path → List (Path × X)
  sub_map files path = map (λ entry. (drop (length path) entry.0, entry.1)) (under path files)

  -- the first components, each once
  abbrev pub first_components : List (Path × X) → List Bytes
  first_components [] = []
  first_components (e ∷ es) = with_first (first_component e.0) (first_components es)

  -- the number of components of the longest path
  abbrev pub depth : List (Path × X) → ℕ
  depth [] = 0
  depth (e ∷ es) = max (length e.0) (depth es)
