use Rattle.gx_rev.specs.Parents.{HoldsParents}
use Rattle.gx_taken.proofs.CheckedRefs.{AreChecked}
use Rattle.gx_taken.proofs.checking.check_refs.Given as goal

abbrev pub invariant-loop-item : goal.invariant-loop-item
invariant-loop-item g l = HoldsParents l.repo.1 l.parents × AreChecked {A = g.row.A.Denot} l.force l.repo.1 l.refs l.item-index
