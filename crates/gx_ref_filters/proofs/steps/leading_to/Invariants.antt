use Rattle.std.proofs.Common.{length}
use Rattle.gx_ref_filters.proofs.Leading.{AreLeft}
use Rattle.gx_ref_filters.proofs.steps.leading_to.Given as goal

abbrev pub invariant-loop-above : goal.invariant-loop-above
invariant-loop-above g l = AreLeft l.place l.fn.steps.items l.left.items l.places

abbrev pub decreases-loop-above : goal.decreases-loop-above
decreases-loop-above g l = length l.left.items
