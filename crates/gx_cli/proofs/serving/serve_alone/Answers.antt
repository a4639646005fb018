use Rattle.std.proofs.Common.{refl, []}
use Rattle.gx_cli.proofs.ServedLines.{line_refused}
use Rattle.gx_cli.proofs.serving.serve_alone.Goals as goal

pub returns-in_default : goal.returns-in_default
returns-in_default g c =
    let was = g.W.Sink.taken c.args.sink.now in
    line_refused (g.N.Namer.name_of c.args.namer) c.refused.result (g.R.Source.coming c.args.source) was was c.args.line.now [] c.requires c.in_default.not-Stream c.in_default.not-Change (c.refused.ensures, refl)
