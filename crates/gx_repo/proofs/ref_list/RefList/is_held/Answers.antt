use Rattle.std.proofs.Common.{◌∙◌}
use Rattle.gx_repo.proofs.NamedRefs.{held_where}
use Rattle.gx_repo.proofs.ref_list.RefList.is_held.Goals as goal

pub returns : goal.returns
returns g c = c.is_some.ensures ∙ held_where c.args.self.now c.args.name.now c.find_near.result.1 c.find_near.ensures.object
