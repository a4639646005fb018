use Rattle.std.proofs.Common.{◌+◌, ◌≤◌}
use Rattle.gx_bench.proofs.count_commands.Given as goal

abbrev pub invariant-loop-command : goal.invariant-loop-command
invariant-loop-command l = l.count + l.reader.most ≤ l.fn.reader.most

abbrev pub decreases-loop-command : goal.decreases-loop-command
decreases-loop-command l = l.reader.most
