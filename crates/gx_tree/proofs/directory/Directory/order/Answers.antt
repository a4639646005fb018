use Rattle.gx_tree.proofs.Homes.{files_same}
use Rattle.std.proofs.Common.{subst}
use Rattle.gx_tree.specs.Nodes.{IsInner}
use Rattle.gx_tree.specs.Views.{shown_entries}
use Rattle.gx_tree.proofs.Levels.{IsInner-files}
use Rattle.gx_tree.proofs.directory.Directory.order.Goals as goal

pub returns : goal.returns
returns g c = subst IsInner (files_same c.self.view_is) (IsInner-files (shown_entries c.self.inside.entries.value.items) c.self.invariant.0)
