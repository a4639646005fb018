use Rattle.std.specs.Io.KnownBytes.{Keeps}
use Rattle.gx_text.proofs.outside.read_tried.Given as goal

abbrev pub invariant-loop-try : goal.invariant-loop-try
invariant-loop-try g l = Keeps (g.R.Read.remaining l.fn.reader) (g.R.Read.remaining l.reader)
