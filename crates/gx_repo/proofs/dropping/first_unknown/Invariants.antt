use Rattle.gx_repo.proofs.DroppedRefs.{AreKnown}
use Rattle.gx_repo.proofs.dropping.first_unknown.Given as goal

abbrev pub invariant-loop-place : goal.invariant-loop-place
invariant-loop-place g l = AreKnown l.refs l.names l.place
