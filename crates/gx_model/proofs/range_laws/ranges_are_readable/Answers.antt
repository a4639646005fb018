use Rattle.gx_model.proofs.Ranges.ReadableRanges.{range_readable}
use Rattle.gx_model.proofs.Ranges.SpelledRanges.{range_spelled}
use Rattle.gx_model.proofs.range_laws.ranges_are_readable.Goals as goal

pub returns-clause-readable : goal.returns-clause-readable
returns-clause-readable c = λ name closed h words x r lt. range_readable name closed h words x r lt

pub returns-clause-spelled : goal.returns-clause-spelled
returns-clause-spelled c = λ name namer h words x r. range_spelled h x words name namer r
