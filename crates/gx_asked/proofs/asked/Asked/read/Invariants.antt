use Rattle.gx_asked.proofs.ReadCommands.{IsRead}
use Rattle.gx_asked.proofs.asked.Asked.read.Given as goal

abbrev pub invariant-loop-reader : goal.invariant-loop-reader
invariant-loop-reader g l = IsRead l.fn.features l.stream l.fails l.asked l.reader.commands

abbrev pub decreases-loop-reader : goal.decreases-loop-reader
decreases-loop-reader g l = l.reader.most
