use Rattle.std.proofs.Common.{refl}
use Rattle.gx_cli.specs.Serving.{ending_of, format_parts}
use Rattle.gx_cli.proofs.FormattedLines.{lines_formatted, lines_unformatted}
use Rattle.gx_cli.proofs.batch.batch_stored.Goals as goal

pub returns-in-Ok : goal.returns-in-Ok
returns-in-Ok g c =
    lines_formatted (g.N.Namer.name_of c.args.namer) c.args.form (format_parts c.args.format) c.args.store.items (g.R.Source.coming c.args.source) (g.W.Sink.taken c.args.sink.now) (g.W.Sink.taken c.batch_formatted.new.sink) c.batch_formatted.result
    c.in-Ok.format.parts.items c.ending_of.result (ending_of c.args.nul) c.in-Ok.ensures c.ending_of.ensures c.batch_formatted.ensures

pub returns-in-Err : goal.returns-in-Err
returns-in-Err g c =
    let was = g.W.Sink.taken c.args.sink.now in
    lines_unformatted (g.N.Namer.name_of c.args.namer) c.args.form (format_parts c.args.format) c.args.store.items (g.R.Source.coming c.args.source) was was c.refused.result (ending_of c.args.nul) c.in-Err.fault c.in-Err.ensures c.refused.ensures refl
