-- Tips: marks of commits that stand for all that these commits reach.
use Rattle.std.specs.Prelude.{◌≡◌, ℕ, Bool, ◌||◌, IsTrue, List, length}
use Rattle.gx_model.specs.Histories.Values.{Commit}
use Rattle.gx_model.specs.Histories.{Records}
use Rattle.gx_model.specs.Histories.Marks.{IsAt, IsMarked, marks_of}
use Rattle.gx_model.specs.Revisions.Ranges.{reaches}
use Rattle.gx_model.specs.Laws.RepositoryLaws.{values_of}

-- the marks are of commits, and what these reach are the commits that pass
pub record AreTips (repository : Records) (test : Commit → Bool) (marks : List Bool) : Type 0 where
  pub long : length marks ≡ length (values_of repository)
  pub only : (place : ℕ) → IsMarked marks place
      → (tip : Commit) × IsAt repository place tip × ((other : Commit) → IsTrue (reaches tip other) → IsTrue (test other))
  pub all : (other : Commit) → IsTrue (test other)
      → (tip : Commit) × (place : ℕ) × IsAt repository place tip × IsMarked marks place × IsTrue (reaches tip other)

-- the marks are tips
abbrev pub HasTips : Records → List Bool → Type 0
HasTips repository marks = (test : Commit → Bool) × AreTips repository test marks

-- the tips reach these commits besides
abbrev pub AddsTips : Records → (Commit → Bool) → List Bool → List Bool → Type 0
AddsTips repository more old new = (test : Commit → Bool)
    → AreTips repository test old → AreTips repository (λ reached. test reached || more reached) new

-- all that the tips reach is marked, and nothing else
abbrev pub Spreads : Records → List Bool → List Bool → Type 0
Spreads repository old new = (test : Commit → Bool) → AreTips repository test old → new ≡ marks_of test (values_of repository)
