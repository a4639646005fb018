use Rattle.gx_taken.proofs.NumberedLabels.{AreOthers}
use Rattle.gx_taken.proofs.parts.number_of.Given as goal

abbrev pub invariant-loop-label : goal.invariant-loop-label
invariant-loop-label l = AreOthers l.labels l.name.bytes l.label-index
