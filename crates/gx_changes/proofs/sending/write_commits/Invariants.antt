use Rattle.std.proofs.Common.{◌≤◌, ℕ, length}
use Rattle.std.specs.Prelude.{IfSome}
use Rattle.gx_changes.proofs.Texts.{SentFrom}
use Rattle.gx_changes.proofs.sending.write_commits.Given as goal

abbrev pub invariant-loop-left : goal.invariant-loop-left
invariant-loop-left g l = record {
  within : l.left ≤ length l.commits;
  sent : IfSome (g.O.Objects.told l.objects) (SentFrom (g.O.Objects.name_of l.objects) l.commits l.branches l.fn.written l.written l.left);
}

abbrev pub decreases-loop-left : goal.decreases-loop-left
decreases-loop-left g l = l.left
