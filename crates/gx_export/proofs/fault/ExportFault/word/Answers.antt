use Rattle.std.proofs.Common.{ap, sym}
use Rattle.gx_export.specs.Faults.{word}
use Rattle.gx_export.proofs.fault.ExportFault.word.Goals as goal

pub returns-in-WriteFailed : goal.returns-in-WriteFailed
returns-in-WriteFailed c = ap word (sym c.in-WriteFailed.is)
