use Rattle.gx_changes.proofs.Parents.{FirstParents}
use Rattle.gx_changes.proofs.commit.write_parents.Given as goal

abbrev pub invariant-loop-number : goal.invariant-loop-number
invariant-loop-number g l = FirstParents l.commit l.fn.written l.number l.written
