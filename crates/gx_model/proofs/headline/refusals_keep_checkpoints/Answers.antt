use Rattle.gx_model.proofs.Headlines.KeptCheckpoints.{checkpoints_kept}
use Rattle.gx_model.proofs.headline.refusals_keep_checkpoints.Goals as goal

pub returns : goal.returns
returns c = checkpoints_kept
