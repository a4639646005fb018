use Rattle.std.proofs.Common.{◌∙◌, [], refl, sym, ap}
use Rattle.gx_export.specs.Compared.{entries_if}
use Rattle.gx_differences.proofs.Told.{each_told}
use Rattle.gx_differences.proofs.differences.entries_in.Goals as goal

pub returns-in-None-clause-entries : goal.returns-in-None-clause-entries
returns-in-None-clause-entries g c = each_told (g.O.Objects.told c.args.objects.now) _ (λ r. c.held_tree.ensures [] (refl, refl, refl) ∙ ap (entries_if r) (sym c.in-None.is))
