use Rattle.std.proofs.Common.{sym, ap}
use Rattle.gx_command.specs.CommandFaults.{word}
use Rattle.gx_command.proofs.fault.CommandFault.word.Goals as goal

pub returns-in-BadNumber : goal.returns-in-BadNumber
returns-in-BadNumber c = ap word (sym c.in-BadNumber.is)
