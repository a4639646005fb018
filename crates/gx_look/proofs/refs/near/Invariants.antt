use Rattle.std.proofs.Common.{◌++◌}
use Rattle.gx_look.specs.Refs.{LeavesName}
use Rattle.gx_look.proofs.refs.near.Given as goal

abbrev pub invariant-loop-width : goal.invariant-loop-width
invariant-loop-width l = LeavesName l.lines (l.before ++ l.word ++ l.after) l.rest

abbrev pub decreases-loop-width : goal.decreases-loop-width
decreases-loop-width l = l.width
