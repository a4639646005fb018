use Rattle.gx_model.proofs.Export.ExportItems.{exports_read}
use Rattle.gx_model.proofs.export_laws.exports_are_items.Goals as goal

pub returns : goal.returns
returns c = record { items = exports_read }
