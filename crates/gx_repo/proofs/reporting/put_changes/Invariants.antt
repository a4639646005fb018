use Rattle.std.proofs.Common.{◌+◌, length}
use Rattle.gx_repo.proofs.ReportedRefs.{IsReportedTo}
use Rattle.gx_repo.proofs.reporting.put_changes.Given as goal

abbrev pub invariant-loop-name : goal.invariant-loop-name
invariant-loop-name g l = IsReportedTo l.fn.before l.fn.after l.before l.after l.report.items

abbrev pub decreases-loop-name : goal.decreases-loop-name
decreases-loop-name g l = length l.before + length l.after
