use Rattle.std.proofs.Common.{take}
use Rattle.gx_tree.specs.Nodes.{files}
use Rattle.gx_tree.specs.Rooms.{IsReach}
use Rattle.gx_tree.specs.Views.{shown_entries}
use Rattle.gx_tree.proofs.reach.reach_of.Given as goal

abbrev pub invariant-loop-entry : goal.invariant-loop-entry
invariant-loop-entry g l = IsReach l.longest (files (shown_entries (take l.entry-index l.entries)))
