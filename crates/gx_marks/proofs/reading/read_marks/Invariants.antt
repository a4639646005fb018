use Rattle.std.proofs.Common.{length}
use Rattle.gx_marks.specs.Shown.{shown_marks}
use Rattle.gx_marks.proofs.ReadTexts.{IsLeft}
use Rattle.gx_marks.proofs.reading.read_marks.Given as goal

abbrev pub invariant-loop-rest : goal.invariant-loop-rest
invariant-loop-rest g l = IsLeft l.fn.text l.rest (shown_marks l.marks.items)

abbrev pub decreases-loop-rest : goal.decreases-loop-rest
decreases-loop-rest g l = length l.rest
