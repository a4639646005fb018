use Rattle.gx_model.proofs.Changes.ChangeReplays.{all_changes_replayed}
use Rattle.gx_model.proofs.changes_laws.changes_are_replayed.Goals as goal

pub returns : goal.returns
returns c = record { replayed = all_changes_replayed }
