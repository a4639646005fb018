use Rattle.gx_model.proofs.Changes.SpelledChanges.{changes_imported}
use Rattle.gx_model.proofs.changes_laws.changes_are_imported.Goals as goal

pub returns : goal.returns
returns c = record { imported = changes_imported }
