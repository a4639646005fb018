use Rattle.std.proofs.Common.{length, ◌≤◌}
use Rattle.gx_export.specs.Branches.{shown_tips, targets}
use Rattle.gx_export.proofs.RankedRefs.{AreHanded}
use Rattle.gx_export.proofs.branches.hand_down.Given as goal

abbrev pub invariant-loop-left : goal.invariant-loop-left
invariant-loop-left g l = record {
  within : l.left ≤ length l.ranks;
  handed : AreHanded l.repo.1 (length (targets l.repo.1 (shown_tips l.tips))) l.fn.ranks l.ranks l.left;
}

abbrev pub decreases-loop-left : goal.decreases-loop-left
decreases-loop-left g l = l.left
