use Rattle.std.proofs.Common.{Ok, Err, ap, refl}
use Rattle.gx_cli.proofs.batch.answer_all.Goals as goal

pub returns-in-Ok : goal.returns-in-Ok
returns-in-Ok g c = (Ok c.in-Ok.field-0, c.in-Ok.ensures, refl)

pub returns-in-Err : goal.returns-in-Err
returns-in-Err g c = (Err c.in-Err.fault, c.in-Err.ensures, ap Err c.from.ensures)
