-- The places of the parents of commits.
use Rattle.std.specs.Prelude.{◌≡◌, ◌<◌, ◌≤◌, ℕ, Bool, List, length, map, Some, slice_range, slice_index_or}
use Rattle.std.specs.List.{slice_get}
use Rattle.gx_model.specs.Histories.Values.{Commit, Commits, commit_value, list_of, parents_of}
use Rattle.gx_model.specs.Histories.{Records}
use Rattle.gx_model.specs.Histories.Marks.{IsAt, Marks}
use Rattle.gx_model.specs.Laws.HistoryLaws.{IsParent}
use Rattle.gx_model.specs.Laws.RepositoryLaws.{values_of}
use Rattle.gx_rev.specs.declared.parents.Parents.{Parents}
use Rattle.gx_rev.specs.declared.parents.Row.{Row}

-- a commit stands at a place
abbrev pub IsCommitPlace : Records → ℕ → Type 0
IsCommitPlace repository place = (made : Commit) × IsAt repository place made

-- the commits stand at these places, one at each
abbrev pub StandAt : Records → List Commit → List ℕ → Type 0
StandAt repository commits places = map (slice_get (values_of repository)) places ≡ map (λ made. Some (commit_value made)) commits

-- besides those that were, the commits that stand at these places are marked
abbrev pub MarksPlaces : Records → List ℕ → List Bool → List Bool → Type 0
MarksPlaces repository places old new = (parents : Commits) → StandAt repository (list_of parents) places → Marks repository (λ parent. IsParent parent parents) old new

-- these are the places of the parents of the commit at a place
abbrev pub AreParentPlaces : Records → ℕ → List ℕ → Type 0
AreParentPlaces repository place places = (made : Commit) → IsAt repository place made → StandAt repository (list_of (parents_of made)) places

abbrev pub no_row : Row
no_row = record { start = 0; end = 0 }

-- the places that are known for one
abbrev pub parents_in : {A : Type 0} → Parents A → ℕ → List ℕ
parents_in table place = slice_range table.places.items (slice_index_or table.rows.items place no_row).start (slice_index_or table.rows.items place no_row).end

-- what is known of a place, where that is something
pub record IsRowOf (repository : Records) (places : List ℕ) (place : ℕ) (row : Row) : Type 0 where
  pub order : row.start ≤ row.end
  pub within : row.end ≤ length places
  pub parents : row.start < row.end → AreParentPlaces repository place (slice_range places row.start row.end)

-- what is known are the parents' places
abbrev pub HoldsParents : {A : Type 0} → Records → Parents A → Type 0
HoldsParents repository table = (place : ℕ) → IsRowOf repository table.places.items place (slice_index_or table.rows.items place no_row)
