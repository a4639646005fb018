use Rattle.gx_model.proofs.Headlines.ComingBack.{changes_back}
use Rattle.gx_model.proofs.Headlines.ShownImports.{changes_come_back}
use Rattle.gx_model.proofs.changes_laws.texts_come_back_by_changes.Goals as goal

pub returns-clause-texts : goal.returns-clause-texts
returns-clause-texts c = changes_back

pub returns-clause-repositories : goal.returns-clause-repositories
returns-clause-repositories c = changes_come_back
