use Rattle.std.proofs.Common.{drop}
use Rattle.std.specs.List.{flat_map}
use Rattle.gx_print.specs.Stored.{shown_line}
use Rattle.gx_model.proofs.Texts.SentTexts.{IsLeft}
use Rattle.gx_cli.proofs.rev_parse.print_lines.Given as goal

abbrev pub invariant-loop-shown : goal.invariant-loop-shown
invariant-loop-shown g l = IsLeft (flat_map shown_line l.all) (g.W.Sink.taken l.fn.sink) (g.W.Sink.taken l.sink) (flat_map shown_line (drop l.shown-index l.all))
