use Rattle.std.proofs.Common.{ap, false}
use Rattle.std.specs.Option.{option_map_or}
use Rattle.gx_import.specs.declared.branches.Tip.{Tip}
use Rattle.gx_import.proofs.branches.is_published.Goals as goal

pub returns-in-Some : goal.returns-in-Some
returns-in-Some g c = ap (λ o. option_map_or (λ (tip : Tip g.row.A.Denot). tip.was_published) o false) c.in-Some.ensures

pub returns-in-None : goal.returns-in-None
returns-in-None g c = ap (λ o. option_map_or (λ (tip : Tip g.row.A.Denot). tip.was_published) o false) c.in-None.ensures
