use Rattle.gx_model.proofs.Headlines.ComingBack.{texts_back}
use Rattle.gx_model.proofs.gitlink_laws.texts_come_back.Goals as goal

pub returns : goal.returns
returns c = texts_back
