use Rattle.std.specs.Io.KnownBytes.{Keeps}
use Rattle.gx_text.proofs.outside.write_tried.Given as goal

abbrev pub invariant-loop-try : goal.invariant-loop-try
invariant-loop-try g l = Keeps (g.W.Write.contents l.fn.writer) (g.W.Write.contents l.writer)
