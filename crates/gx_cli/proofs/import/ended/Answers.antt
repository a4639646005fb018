use Rattle.gx_cli.proofs.StoredImports.{ended_accepted, ended_refused}
use Rattle.gx_cli.proofs.import.ended.Goals as goal

pub returns-in-Ok : goal.returns-in-Ok
returns-in-Ok g c = ended_accepted g.N.Namer.name_of c.args.next c.in-Some.repo c.args.answer c.with_text.result c.in-Some.is c.in-Ok.field-0 c.in-Ok.is c.with_text.ensures

pub returns-in-Some : goal.returns-in-Some
returns-in-Some g c = ended_refused g.N.Namer.name_of c.args.next c.in-Some.repo c.args.answer c.with_text-in-Err.result c.in-Some.is c.in-Err.fault c.in-Err.is c.with_text-in-Err.ensures
