use Rattle.std.proofs.Common.{ap, false}
use Rattle.std.specs.Option.{option_map_or}
use Rattle.gx_import.specs.declared.branches.Tip.{Tip}
use Rattle.gx_import.proofs.tables.Tables.forget_tip.Goals as goal

pub returns-in_default-clause-published : goal.returns-in_default-clause-published
returns-in_default-clause-published g c = ap (λ o. option_map_or (λ (tip : Tip g.row.A.Denot). tip.was_published) o false) c.in_default.ensures

pub returns-clause-published : goal.returns-clause-published
returns-clause-published g c = ap (λ o. option_map_or (λ (tip : Tip g.row.A.Denot). tip.was_published) o false) c.in-Some.ensures
