use Rattle.gx_repo.proofs.DroppedRefs.{Entered}
use Rattle.gx_repo.proofs.dropping.enter_names.Given as goal

abbrev pub invariant-loop-place : goal.invariant-loop-place
invariant-loop-place g l = Entered l.refs l.entered l.names l.place
