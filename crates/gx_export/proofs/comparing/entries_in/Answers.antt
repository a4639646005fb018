use Rattle.std.proofs.Common.{◌∙◌, [], refl, sym, ap}
use Rattle.gx_export.specs.Compared.{entries_if}
use Rattle.gx_export.proofs.comparing.entries_in.Goals as goal

pub returns-in-None : goal.returns-in-None
returns-in-None g c = c.held_tree.ensures [] (refl, refl, refl) ∙ ap (entries_if c.args.repo.now.1) (sym c.in-None.is)
