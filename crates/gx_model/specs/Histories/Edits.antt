-- The edits of a file map, as operations on the set of its entries.
-- Source: git-fast-import(1), "filemodify", "filedelete", "filecopy" and "filerename".
use Rattle.std.specs.Prelude.{Bool, true, false, not, ◌&&◌, List, [], ◌∷◌, ◌++◌, map, length, drop, if◌then◌else◌, Option, None, Some, Result, Ok, Err, is_some}
use Rattle.std.specs.List.{list_all, filter}
use Rattle.std.specs.FinMap.Entries.{put}
use Rattle.gx_model.specs.declared.faults.Fault.{Fault}
use Rattle.gx_model.specs.declared.faults.Fault.TheVariants.{NoSuchPath, RootNotTree, PathTooLong}
use Rattle.gx_model.specs.Texts.Paths.{Path, are_in_line, begins, is_short, path_cmp}
use Rattle.gx_model.specs.Histories.Files.{file_at, under}
use Rattle.gx_model.specs.Faults.{unless}

-- whether a path is the root
abbrev pub is_root : Path → Bool
is_root [] = true
is_root (c ∷ p) = false

module _ {X : Type 0} where
  -- without what stands at or below a path, and without a file above it
  abbrev pub without_line : Path → List (Path × X) → List (Path × X)
  without_line path = filter (λ entry. not (are_in_line path entry.0))

  -- without what stands at or below a path
  abbrev pub without : Path → List (Path × X) → List (Path × X)
  without path = filter (λ entry. not (begins path entry.0))

  -- with these entries, too
  abbrev pub with_all : List (Path × X) → List (Path × X) → List (Path × X)
  with_all [] files = files
  with_all (e ∷ es) files = put path_cmp e.0 e.1 (with_all es files)

  -- entries at or below the source, so at the destination
  abbrev pub moved : Path → Path → List (Path × X) → List (Path × X)
  moved source dest = map (λ entry. (dest ++ drop (length source) entry.0, entry.1))

  -- the map with this file at p, and with nothing in line with p besides
  abbrev pub modified : List (Path × X) → Path → X → Result (List (Path × X)) Fault
  modified files [] leaf = Err RootNotTree
  modified files (c ∷ p) leaf = Ok (put path_cmp (c ∷ p) leaf (without_line (c ∷ p) files))

  -- the map without what stands at or below p
  abbrev pub removed : List (Path × X) → Path → List (Path × X)
  removed files path = without path files

  -- why a copy or a rename is refused
  abbrev pub copy_fault : List (Path × X) → Path → Path → Option Fault
  copy_fault files source dest =
      if list_all (λ entry. not (begins source entry.0)) files then Some NoSuchPath
      else if is_some (file_at files source) && is_root dest then Some RootNotTree
      else if list_all (λ entry. is_short entry.0) (moved source dest (under source files)) then None
      else Some PathTooLong

  -- the destination is cleared, and then what the source had is put there
  abbrev pub copied : List (Path × X) → Path → Path → Result (List (Path × X)) Fault
  copied files source dest = unless (copy_fault files source dest) (with_all (moved source dest (under source files)) (without_line dest files))

  -- the source is taken out, the destination is cleared, and then what the source had is put there
  abbrev pub renamed : List (Path × X) → Path → Path → Result (List (Path × X)) Fault
  renamed files source dest = unless (copy_fault files source dest) (with_all (moved source dest (under source files)) (without_line dest (without source files)))
