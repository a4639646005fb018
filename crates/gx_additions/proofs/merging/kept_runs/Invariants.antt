use Rattle.std.proofs.Common.{◌≡◌, ◌≤◌, drop, length}
use Rattle.gx_additions.specs.Merging.{AreTakenIn, rows_given}
use Rattle.gx_additions.proofs.merging.kept_runs.Given as goal

abbrev pub invariant-loop-kept : goal.invariant-loop-kept
invariant-loop-kept l = record {
  within : l.kept ≤ length l.runs;
  rows : l.rows ≡ rows_given (drop l.kept l.runs);
  few : l.rows ≤ l.most;
  taken : AreTakenIn l.new l.most (drop l.kept l.runs);
}

abbrev pub decreases-loop-kept : goal.decreases-loop-kept
decreases-loop-kept l = l.kept
