use Rattle.gx_marks.proofs.OneReadings.{one_reading}
use Rattle.gx_marks.proofs.mark_laws.one_reading.Goals as goal

pub returns : goal.returns
returns c = one_reading
