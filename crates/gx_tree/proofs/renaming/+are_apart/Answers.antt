use Rattle.std.proofs.Common.{arith}
use Rattle.gx_tree.proofs.Renamed.{apart_nor, apart_not}
use Rattle.gx_tree.proofs.renaming.+are_apart.Goals as goal
use Rattle.gx_tree.proofs.renaming.+are_apart.Goals.{then-depth-len-via-then-depth-len, then-depth-len-via-else-depth-len+then-depth-len-2}

pub returns-then-depth-len : goal.returns-then-depth-len
returns-then-depth-len g t c = elim c.then-depth-len.branch [
  | then-depth-len-via-then-depth-len w ↦ apart_not c.args.from.now c.args.to.now c.args.depth (omega (arith, w.if-depth-len.true, c.len.ensures.length))
  | then-depth-len-via-else-depth-len+then-depth-len-2 w ↦ apart_nor c.args.from.now c.args.to.now c.args.depth (omega (arith, w.if-depth-len-2.true, w.len-else-depth-len.ensures.length))
]
