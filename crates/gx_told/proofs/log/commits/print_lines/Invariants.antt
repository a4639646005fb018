use Rattle.std.proofs.Common.{drop}
use Rattle.gx_model.proofs.Texts.SentTexts.{IsLeft}
use Rattle.gx_told.specs.Logging.{name_lines}
use Rattle.gx_told.proofs.log.commits.print_lines.Given as goal

abbrev pub invariant-loop-name : goal.invariant-loop-name
invariant-loop-name g l = IsLeft (name_lines l.names) (g.W.Sink.taken l.fn.sink) (g.W.Sink.taken l.sink) (name_lines (drop l.name-index l.names))
