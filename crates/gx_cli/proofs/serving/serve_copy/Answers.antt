use Rattle.gx_cli.proofs.RoomlessLines.{roomless_again, roomless_served}
use Rattle.gx_cli.proofs.serving.serve_copy.Goals as goal

pub returns-in-Err-clause-served : goal.returns-in-Err-clause-served
returns-in-Err-clause-served g c =
    roomless_served (g.N.Namer.name_of c.args.namer) c.refused.result (g.W.Sink.taken c.args.sink.now) c.args.line.now c.args.store.now (g.R.Source.coming c.args.source) c.args.fault c.requires.room c.refused.ensures

pub returns-in-Err-clause-again : goal.returns-in-Err-clause-again
returns-in-Err-clause-again g c =
    roomless_again (g.N.Namer.name_of c.args.namer) c.refused.result (g.W.Sink.taken c.args.sink.now) c.args.line.now c.args.store.now (g.R.Source.coming c.args.source) c.args.fault c.requires.room c.refused.ensures
