use Rattle.std.proofs.Common.{◌+◌, ◌*◌}
use Rattle.std.specs.Prelude.{IfSome}
use Rattle.gx_differences.proofs.ListedSteps.{Lists}
use Rattle.gx_differences.proofs.listed.+list.Given as goal

abbrev pub decreases-list_trees : goal.decreases-list_trees
decreases-list_trees g l = 2 * l.room + 1

abbrev pub decreases-list_pair : goal.decreases-list_pair
decreases-list_pair g l = 2 * l.room

abbrev pub invariant-list_trees-loop-pair : goal.invariant-list_trees-loop-pair
invariant-list_trees-loop-pair g l = IfSome (g.O.Objects.told l.objects) (Lists (g.O.Objects.name_of l.objects) l.room l.front l.fn.old l.fn.new l.pair-iterator l.fn.found.items l.found.items)
