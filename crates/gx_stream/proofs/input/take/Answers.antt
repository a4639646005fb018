use Rattle.std.proofs.Common.{rules}
use Rattle.gx_stream.proofs.input.take.Goals as goal

pub returns-in-End : goal.returns-in-End
returns-in-End c = search rules
