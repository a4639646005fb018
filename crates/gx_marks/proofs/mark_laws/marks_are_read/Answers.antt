use Rattle.gx_marks.proofs.OneReadings.{marks_are_read}
use Rattle.gx_marks.proofs.mark_laws.marks_are_read.Goals as goal

pub returns : goal.returns
returns c = marks_are_read
