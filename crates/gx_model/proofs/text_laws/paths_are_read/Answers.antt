use Rattle.gx_model.proofs.Texts.PathTexts.{path_refused}
use Rattle.gx_model.proofs.text_laws.paths_are_read.Goals as goal

pub returns-clause-fault : goal.returns-clause-fault
returns-clause-fault c = path_refused
