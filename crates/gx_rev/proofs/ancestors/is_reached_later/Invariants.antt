use Rattle.std.specs.Prelude.{◌↔◌}
use Rattle.std.specs.List.{AllByRecursion}
use Rattle.gx_model.specs.Histories.Marks.{IsAt}
use Rattle.gx_model.specs.Histories.Values.{Commit}
use Rattle.gx_rev.specs.Parents.{HoldsParents, IsCommitPlace}
use Rattle.gx_rev.specs.Ancestors.{SomeReaches, behind_last}
use Rattle.gx_rev.proofs.ancestors.is_reached_later.Given as goal

abbrev pub invariant-loop-place : goal.invariant-loop-place
invariant-loop-place g l = record {
  commits : AllByRecursion (IsCommitPlace l.repo.1) l.places.keys;
  same : (made : Commit) → IsAt l.repo.1 l.last made → SomeReaches l.repo.1 l.places.keys made ↔ SomeReaches l.repo.1 l.fn.places.keys made;
  holds : HoldsParents l.repo.1 l.parents;
}

abbrev pub decreases-loop-place : goal.decreases-loop-place
decreases-loop-place g l = behind_last l.places.keys
