use Rattle.gx_model.proofs.Export.RefusedExports.{before_replayed, nulls_end, nulls_refused}
use Rattle.gx_model.proofs.gitlink_laws.nulls_are_refused.Goals as goal

pub returns-clause-commands : goal.returns-clause-commands
returns-clause-commands c = nulls_end

pub returns-clause-refused : goal.returns-clause-refused
returns-clause-refused c = nulls_refused

pub returns-clause-before : goal.returns-clause-before
returns-clause-before c = before_replayed
