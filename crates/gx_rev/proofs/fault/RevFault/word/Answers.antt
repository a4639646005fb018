use Rattle.std.proofs.Common.{ap, sym}
use Rattle.gx_rev.specs.RevFaults.{word}
use Rattle.gx_rev.proofs.fault.RevFault.word.Goals as goal

pub returns-in-UnknownRef : goal.returns-in-UnknownRef
returns-in-UnknownRef c = ap word (sym c.in-UnknownRef.is)
