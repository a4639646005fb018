use Rattle.std.proofs.Common.{◌-◌, length}
use Rattle.gx_export.proofs.file_lines.pass_lines.Given as goal

abbrev pub decreases-loop-passed : goal.decreases-loop-passed
decreases-loop-passed l = length l.lines - l.passed
