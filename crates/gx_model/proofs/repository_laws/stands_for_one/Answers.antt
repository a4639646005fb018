use Rattle.gx_model.proofs.Records.OneHistory.{one_history}
use Rattle.gx_model.proofs.repository_laws.stands_for_one.Goals as goal

pub returns : goal.returns
returns c = one_history
