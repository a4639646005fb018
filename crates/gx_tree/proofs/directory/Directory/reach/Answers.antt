use Rattle.std.proofs.Common.{subst}
use Rattle.gx_tree.specs.Rooms.{IsReach}
use Rattle.gx_tree.proofs.Homes.{files_same}
use Rattle.gx_tree.proofs.directory.Directory.reach.Goals as goal

pub returns : goal.returns
returns g c = subst (IsReach c.self.inside.reach) (files_same c.self.view_is) c.self.invariant.2
