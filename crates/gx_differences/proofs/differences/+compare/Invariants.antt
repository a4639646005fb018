use Rattle.std.proofs.Common.{◌+◌, ◌*◌}
use Rattle.std.specs.Prelude.{IfSome}
use Rattle.gx_differences.proofs.PassedPairs.{Passes}
use Rattle.gx_differences.proofs.differences.+compare.Given as goal

abbrev pub decreases-compare_trees : goal.decreases-compare_trees
decreases-compare_trees g l = 2 * l.room + 1

abbrev pub decreases-compare_pair : goal.decreases-compare_pair
decreases-compare_pair g l = 2 * l.room

abbrev pub invariant-compare_trees-loop-pair : goal.invariant-compare_trees-loop-pair
invariant-compare_trees-loop-pair g l = IfSome (g.O.Objects.told l.objects) (Passes (g.O.Objects.name_of l.objects) l.room l.front l.fn.old l.fn.new l.pair-iterator l.fn.found l.found)
