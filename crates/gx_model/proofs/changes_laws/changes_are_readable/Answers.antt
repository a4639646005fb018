use Rattle.gx_model.proofs.Changes.ReadableChanges.{changes_readable}
use Rattle.gx_model.proofs.Changes.SpelledChanges.{all_changes_spelled}
use Rattle.gx_model.proofs.changes_laws.changes_are_readable.Goals as goal

pub returns-clause-readable : goal.returns-clause-readable
returns-clause-readable c = changes_readable

pub returns-clause-spelled : goal.returns-clause-spelled
returns-clause-spelled c = all_changes_spelled
