use Rattle.gx_model.proofs.Records.ShortPaths.{short_paths}
use Rattle.gx_model.proofs.repository_laws.entries_tell_short_paths.Goals as goal

pub returns : goal.returns
returns c = short_paths
