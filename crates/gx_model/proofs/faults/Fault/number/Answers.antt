use Rattle.std.proofs.Common.{rules}
use Rattle.gx_model.proofs.faults.Fault.number.Goals as goal

pub returns : goal.returns
returns c = search rules
