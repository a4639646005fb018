use Rattle.std.specs.Prelude.{◌↔◌}
use Rattle.std.specs.List.{AllByRecursion}
use Rattle.gx_model.specs.Histories.Marks.{IsAt}
use Rattle.gx_model.specs.Histories.Values.{Commit}
use Rattle.gx_rev.specs.Parents.{IsCommitPlace}
use Rattle.gx_rev.specs.Ancestors.{SomeReaches}
use Rattle.gx_rev.proofs.ancestors.is_reached_soon.Given as goal

abbrev pub invariant-loop-visit : goal.invariant-loop-visit
invariant-loop-visit g l = record {
  commits : AllByRecursion (IsCommitPlace l.repo.1) l.places.keys;
  same : (made : Commit) → IsAt l.repo.1 l.last made → SomeReaches l.repo.1 l.places.keys made ↔ SomeReaches l.repo.1 l.fn.places.keys made;
}
