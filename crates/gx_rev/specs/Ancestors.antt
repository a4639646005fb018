-- Places of commits, and what the commits at some places reach.
use Rattle.std.specs.Prelude.{◌<◌, ◌⊎◌, ◌↔◌, ℕ, suc, Bool, IsTrue, List, [], ◌∷◌, Option, Some, None, Result, IfOk}
use Rattle.gx_model.specs.Histories.Values.{Commit, Commits, parents_of}
use Rattle.gx_model.specs.Histories.{Records}
use Rattle.gx_model.specs.Histories.Marks.{IsAt}
use Rattle.gx_model.specs.Revisions.Ranges.{reaches, some_reaches}
use Rattle.gx_model.specs.Records.Sound.{AnyByRecursion}
use Rattle.gx_rev.specs.Parents.{IsCommitPlace}

-- a commit stands at a place before another one
abbrev pub IsCommitBefore : Records → ℕ → ℕ → Type 0
IsCommitBefore repository limit place = (place < limit) × IsCommitPlace repository place

-- the commit at a place reaches this one
abbrev pub ReachesFrom : Records → Commit → ℕ → Type 0
ReachesFrom repository reached place = (commit : Commit) × IsAt repository place commit × IsTrue (reaches commit reached)

-- a commit at one of these places reaches this one
abbrev pub SomeReaches : Records → List ℕ → Commit → Type 0
SomeReaches repository places reached = AnyByRecursion (ReachesFrom repository reached) places

-- the commits at these places reach what those at the others did, and what these commits do
abbrev pub AddsParents : Records → Commits → List ℕ → List ℕ → Type 0
AddsParents repository parents old new =
    (reached : Commit) → SomeReaches repository new reached ↔ (SomeReaches repository old reached ⊎ IsTrue (some_reaches parents reached))

-- the commits at these places reach what those at the others did, and what the parents of the commit at a place do
abbrev pub AddsParentsAt : Records → ℕ → List ℕ → List ℕ → Type 0
AddsParentsAt repository place old new = (commit : Commit) → IsAt repository place commit → AddsParents repository (parents_of commit) old new

-- what is answered is whether a commit at one of these places reaches the commit at the last place
abbrev pub TellsReached : {E : Type 0} → Records → List ℕ → ℕ → Result Bool E → Type 0
TellsReached repository places last answer =
    (commit : Commit) → IsAt repository last commit → IfOk answer (λ is_reached. IsTrue is_reached ↔ SomeReaches repository places commit)

-- Either that is answered, or it is the same of other places.
abbrev pub TellsSoon : Records → List ℕ → List ℕ → Commit → Option Bool → Type 0
TellsSoon repository old new reached (Some is_reached) = IsTrue is_reached ↔ SomeReaches repository old reached
TellsSoon repository old new reached None = SomeReaches repository new reached ↔ SomeReaches repository old reached

abbrev pub TellsReachedSoon : {E : Type 0} → Records → List ℕ → List ℕ → ℕ → Result (Option Bool) E → Type 0
TellsReachedSoon repository old new last answer =
    (commit : Commit) → IsAt repository last commit → IfOk answer (TellsSoon repository old new commit)

-- the number behind the last place
abbrev pub behind_last : List ℕ → ℕ
behind_last [] = 0
behind_last (x ∷ []) = suc x
behind_last (x ∷ y ∷ ys) = behind_last (y ∷ ys)
