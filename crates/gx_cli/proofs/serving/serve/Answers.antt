use Rattle.std.proofs.Common.{[], sym}
use Rattle.gx_cli.proofs.RoomlessLines.{unread_again, unread_served}
use Rattle.gx_cli.proofs.serving.serve.Goals as goal

pub returns-in-None-clause-served : goal.returns-in-None-clause-served
returns-in-None-clause-served g c =
    unread_served (g.N.Namer.name_of c.args.namer) c.serve_alone.result [] c.args.store.now (g.R.Source.coming c.args.source) c.args.line.now (g.W.Sink.taken c.args.sink.now) (g.W.Sink.taken c.serve_alone.new.sink) (sym c.in-None.ensures) c.serve_alone.ensures

pub returns-in-None-clause-again : goal.returns-in-None-clause-again
returns-in-None-clause-again g c =
    unread_again (g.N.Namer.name_of c.args.namer) c.serve_alone.result c.args.store.now (g.R.Source.coming c.args.source) c.args.line.now (sym c.in-None.ensures)
