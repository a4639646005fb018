use Rattle.std.proofs.Common.{Some}
use Rattle.gx_cli.proofs.RoundTrips.{exported_too_long, exported_whole, never_unsaid}
use Rattle.gx_cli.proofs.trips.exported.Goals as goal

pub returns-in-Ok : goal.returns-in-Ok
returns-in-Ok g c =
    exported_whole (g.N.Namer.name_of c.args.repo.now.0) c.args.form c.args.repo.now.1 c.new-sink.result c.export_as.new.sink c.into_bytes.result.items c.in-Ok.field-0 c.new-sink.ensures c.into_bytes.ensures c.in-Ok.ensures

pub returns-in-Err-WriteFailed : goal.returns-in-Err-WriteFailed
returns-in-Err-WriteFailed g c =
    exported_too_long (g.N.Namer.name_of c.args.repo.now.0) c.args.form c.args.repo.now.1 c.new-sink.result c.export_as.new.sink c.has_failed.result c.export_as.result c.in-Err-WriteFailed.field-0 _ c.new-sink.ensures c.has_failed.ensures c.if-has_failed.false
    c.in-Err-WriteFailed.is c.in-Err-WriteFailed.field-0-is c.export_as.ensures

pub unreachable-requires : goal.unreachable-requires
unreachable-requires g c =
    never_unsaid (g.N.Namer.name_of c.args.repo.now.0) c.args.form c.args.repo.now.1 (Some c.new-sink.result) (Some c.export_as.new.sink) c.export_as.result _ c.replays_keep_none.ensures.reached c.requires
    c.in-Err-Unsupported.is c.in-Err-Unsupported.field-0-is c.export_as.ensures
