use Rattle.std.proofs.Common.{sym, ap}
use Rattle.gx_model.specs.Faults.FaultWords.{word_of}
use Rattle.gx_model.proofs.faults.Fault.word.Goals as goal

pub returns-in-RootNotTree : goal.returns-in-RootNotTree
returns-in-RootNotTree c = ap word_of (sym c.in-RootNotTree.is)
