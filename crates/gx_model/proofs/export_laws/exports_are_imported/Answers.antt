use Rattle.gx_model.proofs.Export.SpelledExports.{export_imported}
use Rattle.gx_model.proofs.export_laws.exports_are_imported.Goals as goal

pub returns : goal.returns
returns c = record { imported = export_imported }
