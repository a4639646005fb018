use Rattle.std.proofs.Common.{◌≡◌, ◌++◌, ℕ, List, take}
use Rattle.gx_model.specs.Histories.Values.{list_of, parents_of}
use Rattle.gx_rev.specs.Objects.{commit_at}
use Rattle.gx_rev.specs.Parents.{StandAt}
use Rattle.gx_rev.proofs.parents.append_parents.Given as goal

abbrev pub invariant-loop-number : goal.invariant-loop-number
invariant-loop-number g l =
    (added : List ℕ) × (l.places.items ≡ l.fn.places.items ++ added) × StandAt l.repo.1 (take l.number (list_of (parents_of (commit_at l.repo.1 l.commit)))) added
