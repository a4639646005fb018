use Rattle.std.proofs.Common.{◌≡◌, ◌++◌, drop, map}
use Rattle.gx_tree.specs.Nodes.{components, files}
use Rattle.gx_tree.specs.Views.{shown_entries}
use Rattle.gx_tree.specs.Lists.{below, shown_listed}
use Rattle.gx_tree.proofs.directory.Directory.+list_into.Given as goal

abbrev pub invariant-loop-entry : goal.invariant-loop-entry
invariant-loop-entry g l = map shown_listed l.out.items ++ below l.front (files (shown_entries (drop l.entry-index l.entry-items))) ≡ map shown_listed l.initial.out.items ++ below l.front (files (shown_entries l.entry-items))

abbrev pub decreases-list_into : goal.decreases-list_into
decreases-list_into g l = components l.self.now.files
