use Rattle.std.proofs.Common.{length, ◌≤◌}
use Rattle.gx_rev.specs.Parents.{HoldsParents}
use Rattle.gx_rev.proofs.Tips.{AreSpread}
use Rattle.gx_rev.proofs.reached.spread_by.Given as goal

abbrev pub invariant-loop-left : goal.invariant-loop-left
invariant-loop-left g l = record {
  within : l.left ≤ length l.marks;
  spread : AreSpread l.repo.1 l.fn.marks l.marks l.left;
  holds : HoldsParents l.repo.1 l.parents;
}

abbrev pub decreases-loop-left : goal.decreases-loop-left
decreases-loop-left g l = l.left
