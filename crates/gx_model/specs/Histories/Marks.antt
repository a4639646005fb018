-- Marks of commits, by their places in the history.
use Rattle.std.specs.Prelude.{◌≡◌, ◌⊎◌, ℕ, Bool, true, false, List, map, Some, slice_index_or}
use Rattle.std.specs.List.{slice_get}
use Rattle.gx_model.specs.Histories.Values.{Commit, Value, commit_value}
use Rattle.gx_model.specs.Histories.{Records}
use Rattle.gx_model.specs.Laws.RepositoryLaws.{values_of}

-- a place is marked
abbrev pub IsMarked : List Bool → ℕ → Type 0
IsMarked marks place = slice_index_or marks place false ≡ true

-- a commit stands at a place
abbrev pub IsAt : Records → ℕ → Commit → Type 0
IsAt repository place standing = slice_get (values_of repository) place ≡ Some (commit_value standing)

-- besides those that were, these commits are marked, and no other
pub record Marks (repository : Records) (Among : Commit → Type 0) (old new : List Bool) : Type 0 where
  pub keeps : (place : ℕ) → IsMarked old place → IsMarked new place
  pub only : (place : ℕ) → IsMarked new place → IsMarked old place ⊎ ((standing : Commit) × Among standing × IsAt repository place standing)
  pub all : (standing : Commit) → Among standing → (place : ℕ) → IsAt repository place standing → IsMarked new place

-- whether a value is a commit that passes
abbrev pub holds : (Commit → Bool) → Value → Bool
holds test (commit_value made) = test made
holds test _ = false

-- the marks of the commits that pass
abbrev pub marks_of : (Commit → Bool) → List Value → List Bool
marks_of test values = map (holds test) values
