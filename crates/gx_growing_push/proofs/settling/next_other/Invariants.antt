use Rattle.gx_growing_push.proofs.KeptRefs.{AreSameFrom}
use Rattle.gx_growing_push.proofs.settling.next_other.Given as goal

abbrev pub invariant-loop-place : goal.invariant-loop-place
invariant-loop-place g l = AreSameFrom l.names l.refs l.from l.place
