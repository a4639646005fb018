use Rattle.std.proofs.Common.{◌≡◌, ◌≤◌, length}
use Rattle.std.specs.Prelude.{IfSome}
use Rattle.gx_kept.proofs.Spreading.{SpreadFrom}
use Rattle.gx_kept.proofs.marking.spread.Given as goal

abbrev pub invariant-loop-left : goal.invariant-loop-left
invariant-loop-left g l =
    (length l.marks ≡ length l.fn.marks) × (l.left ≤ length l.marks) × IfSome (g.O.Objects.told l.objects) (SpreadFrom l.fn.marks l.left l.marks)

abbrev pub decreases-loop-left : goal.decreases-loop-left
decreases-loop-left g l = l.left
