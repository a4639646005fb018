use Rattle.gx_import.proofs.TipHomes.{none_taken}
use Rattle.gx_import.proofs.tables.Tables.make_room.Goals as goal

pub returns-in_default-clause-taken : goal.returns-in_default-clause-taken
returns-in_default-clause-taken g c = none_taken c.args.self.now.branches
