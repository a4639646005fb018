-- The refs that an import sets: those of the branches with a commit, and then those of the tags.
-- Source: git-fast-import(1), "commit", "reset" and "tag".
use Rattle.std.specs.Prelude.{◌≡◌, ◌||◌, Bool, false, not, List, [], ◌∷◌, ◌++◌, map, Option, Some, None, Result, IfOk, IsTrue}
use Rattle.std.specs.List.{filter}
use Rattle.std.specs.Map.{lookup}
use Rattle.std.specs.declared.vec.Vec.{Vec}
use Rattle.gx_model.specs.Texts.{Bytes, same_bytes}
use Rattle.gx_model.specs.Histories.{Records}
use Rattle.gx_model.specs.Records.Sound.{IsTarget}
use Rattle.gx_object.specs.declared.name.Name.{Name}
use Rattle.gx_model.specs.Records.Publishing.{Change, Ref}
use Rattle.gx_repo.specs.Refs.{shown_update}
use Rattle.gx_repo.specs.declared.publishing.RefChange.{RefChange}
use Rattle.gx_import.specs.Rows.{has_row}
use Rattle.gx_import.specs.declared.branches.Tip.{Tip}
use Rattle.gx_import.specs.declared.tables.Tables.{Tables}

-- a ref of this name set to a commit, where there is one, and then these
abbrev pub branch_then : Bytes → Option Name → List Change → List Change
branch_then branch None changes = changes
branch_then branch (Some called) changes = (branch, called.bytes) ∷ changes

-- the branches with a commit
abbrev pub branch_changes : {A : Type 0} → List (Bytes × Tip A) → List Change
branch_changes [] = []
branch_changes (b ∷ bs) = branch_then b.0 b.1.commit (branch_changes bs)

-- the tags
abbrev pub tag_changes : List (Bytes × Name) → List Change
tag_changes tags = map (λ tag. (tag.0, tag.1.bytes)) tags

-- the branches with a commit, and then the tags
abbrev pub changes_of : {A : Type 0} → Tables A → List Change
changes_of tables = branch_changes tables.branches ++ tag_changes tables.tags

-- a ref holds this object
abbrev pub is_at : Option Bytes → Bytes → Bool
is_at None object = false
is_at (Some held) object = same_bytes held object

-- a change sets what its ref doesn't hold already
abbrev pub is_moved : List Ref → Change → Bool
is_moved refs change = not (is_at (lookup (same_bytes change.0) refs) change.1)

-- a tag is to be set where its ref, which holds this, doesn't hold it, or where a branch of its name is set before it
abbrev pub is_due_by : {A : Type 0} → List (Bytes × Tip A) → Option Bytes → Change → Bool
is_due_by branches held change = not (is_at held change.1) || has_row branches change.0

-- the same by the refs
abbrev pub is_due : {A : Type 0} → List (Bytes × Tip A) → List Ref → Change → Bool
is_due branches refs change = is_due_by branches (lookup (same_bytes change.0) refs) change

-- the tags that are to be set
abbrev pub due_tags : {A : Type 0} → List Ref → Tables A → List Change
due_tags refs tables = filter (is_due tables.branches refs) (tag_changes tables.tags)

-- the branches that are moved, and then the tags that are to be set
abbrev pub moved_of : {A : Type 0} → List Ref → Tables A → List Change
moved_of refs tables = filter (is_moved refs) (branch_changes tables.branches) ++ due_tags refs tables

-- a ref may hold this object
abbrev pub IsHeldByRef : Records → Name → Type 0
IsHeldByRef repository object = (ref_name : Bytes) × IsTarget repository.records ref_name object.bytes

module _ {A : Type 0} where
  -- these changes are appended
  abbrev pub Appends : List Change → Vec RefChange A → Vec RefChange A → Type 0
  Appends changes old new = map shown_update new.items ≡ map shown_update old.items ++ changes

  -- where the answer is that no commit is lost, those of these changes are appended that set what their refs don't hold already
  abbrev pub AppendsMoved : {E : Type 0} → List Ref → List Change → Vec RefChange A → Vec RefChange A → Result Bool E → Type 0
  AppendsMoved refs changes old new answer =
      IfOk answer (λ is_forward. IsTrue is_forward → Appends (filter (is_moved refs) changes) old new)
