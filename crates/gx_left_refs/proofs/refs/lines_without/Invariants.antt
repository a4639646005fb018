use Rattle.gx_left_refs.proofs.DroppedLines.{AreLeft}
use Rattle.gx_left_refs.proofs.refs.lines_without.Given as goal

abbrev pub invariant-loop-name : goal.invariant-loop-name
invariant-loop-name g l = AreLeft l.gone l.refs l.left.lines.items l.left.count l.name-index
