use Rattle.std.proofs.Common.{◌<◌, ◌∷◌}
use Rattle.gx_pack.specs.Packs.{chained, entry_head, sevens}
use Rattle.gx_pack.proofs.Pieces.{IsLeft}
use Rattle.gx_pack.proofs.entry.write_head.Given as goal

abbrev pub invariant-loop-left : goal.invariant-loop-left
invariant-loop-left g l = IsLeft (entry_head l.fn.kind l.fn.size) l.fn.output l.output (chained (l.byte ∷ sevens l.left)) × (l.byte < 128)

abbrev pub decreases-loop-left : goal.decreases-loop-left
decreases-loop-left g l = l.left
