use Rattle.std.proofs.Common.{length}
use Rattle.gx_ref_lines.specs.Refs.{shown_refs}
use Rattle.gx_ref_lines.proofs.LinesRead.{AreFirst}
use Rattle.gx_ref_lines.proofs.ref_lines.RefLines.read.Given as goal

abbrev pub invariant-loop-rest : goal.invariant-loop-rest
invariant-loop-rest g l = AreFirst l.fn.lines l.rest (shown_refs l.refs.items)

abbrev pub decreases-loop-rest : goal.decreases-loop-rest
decreases-loop-rest g l = length l.rest
