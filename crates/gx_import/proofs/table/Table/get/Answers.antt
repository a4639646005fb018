use Rattle.std.proofs.Common.{ap, ◌∙◌}
use Rattle.std.specs.Map.{lookup}
use Rattle.gx_model.specs.Texts.{same_bytes}
use Rattle.gx_import.proofs.SortedRows.{found_at}
use Rattle.gx_import.proofs.table.Table.get.Goals as goal

pub returns : goal.returns
returns g c = c.get.ensures.value ∙ found_at c.args.name.now c.self.inside.rows.entries ∙ ap (lookup (same_bytes c.args.name.now)) c.self.view_is
