use Rattle.gx_model.proofs.Records.TreeWalks.{walk_sound}
use Rattle.gx_model.proofs.repository_laws.walks_tell_paths.Goals as goal

pub returns : goal.returns
returns c = walk_sound
