-- Two walks that go down from two commits to the commits that both reach, and mark those at which they meet.
use Rattle.std.specs.Prelude.{◌≡◌, ◌<◌, ◌+◌, ◌⊎◌, ◌&&◌, ℕ, Bool, true, false, IsTrue, List, [], length}
use Rattle.std.specs.List.{AllByRecursion}
use Rattle.gx_model.specs.Histories.Values.{Commit}
use Rattle.gx_model.specs.Histories.{Records}
use Rattle.gx_model.specs.Histories.Marks.{IsAt, IsMarked}
use Rattle.gx_model.specs.Laws.RepositoryLaws.{values_of}
use Rattle.gx_model.specs.Revisions.Ranges.{reaches}
use Rattle.gx_rev.specs.Ancestors.{SomeReaches, behind_last}
use Rattle.gx_rev.specs.Parents.{IsCommitPlace}
use Rattle.gx_rev.specs.Tips.{AddsTips}

-- whether both of two commits reach a third
abbrev pub reach_both : Commit → Commit → Commit → Bool
reach_both left right reached = reaches left reached && reaches right reached

-- a commit that both reach stands at a place
abbrev pub IsCommonAt : Records → Commit → Commit → ℕ → Type 0
IsCommonAt repository left right place = (common : Commit) × IsAt repository place common × IsTrue (reach_both left right common)

-- a marked commit, which both reach, reaches this one
abbrev pub IsCovered : Records → Commit → Commit → List Bool → Commit → Type 0
IsCovered repository left right marks reached =
    (common : Commit) × (place : ℕ) × IsAt repository place common × IsMarked marks place × IsTrue (reach_both left right common) × IsTrue (reaches common reached)

-- Each walk has these places to visit yet. What both commits reach is reached from a mark, or both walks come to it.
pub record AreMeeting (repository : Records) (left right : Commit) (old marks : List Bool) (lefts rights : List ℕ) : Type 0 where
  pub began : length old ≡ length (values_of repository)
  pub long : length marks ≡ length (values_of repository)
  pub left_places : AllByRecursion (IsCommitPlace repository) lefts
  pub right_places : AllByRecursion (IsCommitPlace repository) rights
  pub from_left : (reached : Commit) → SomeReaches repository lefts reached → IsTrue (reaches left reached)
  pub from_right : (reached : Commit) → SomeReaches repository rights reached → IsTrue (reaches right reached)
  pub keeps : (place : ℕ) → IsMarked old place → IsMarked marks place
  pub only : (place : ℕ) → IsMarked marks place → IsMarked old place ⊎ IsCommonAt repository left right place
  pub all : (reached : Commit) → IsTrue (reach_both left right reached)
      → IsCovered repository left right marks reached ⊎ (SomeReaches repository lefts reached × SomeReaches repository rights reached)

-- two walks have these places to visit
abbrev pub HasMeeting : Records → List Bool → List ℕ → List ℕ → Type 0
HasMeeting repository marks lefts rights = (left : Commit) × (right : Commit) × (old : List Bool) × AreMeeting repository left right old marks lefts rights

-- what both commits of any two such walks reach is reached from a mark besides
abbrev pub MarksMeetings : Records → List ℕ → List ℕ → List Bool → List Bool → Type 0
MarksMeetings repository lefts rights marks new =
    (left right : Commit) (old : List Bool) → AreMeeting repository left right old marks lefts rights → AddsTips repository (reach_both left right) old new

-- the walks went on and are further down, or one has come to its end
abbrev pub GoesDown : Records → List ℕ → List ℕ → List Bool → List ℕ → List ℕ → List Bool → Bool → Type 0
GoesDown repository lefts rights marks new_lefts new_rights new true =
    ((left right : Commit) (old : List Bool) → AreMeeting repository left right old marks lefts rights → AreMeeting repository left right old new new_lefts new_rights)
    × (behind_last new_lefts + behind_last new_rights < behind_last lefts + behind_last rights)
GoesDown repository lefts rights marks new_lefts new_rights new false = (lefts ≡ [] ⊎ rights ≡ []) × (new ≡ marks)
