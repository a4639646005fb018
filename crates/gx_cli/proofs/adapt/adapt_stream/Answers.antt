use Rattle.std.proofs.Common.{Err, refl}
use Rattle.gx_cli.proofs.adapt.adapt_stream.Goals as goal

pub returns-in-Err-clause-adapts : goal.returns-in-Err-clause-adapts
returns-in-Err-clause-adapts g c = (Err c.in-Err.fault, c.in-Err.ensures.adapts, refl)
