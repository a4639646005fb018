use Rattle.gx_rev.specs.Parents.{HoldsParents}
use Rattle.gx_push.proofs.LostCommits.{AreKept}
use Rattle.gx_push.proofs.forward.want_forward.Given as goal

abbrev pub invariant-loop-place : goal.invariant-loop-place
invariant-loop-place g l = HoldsParents l.repo.1 l.parents × AreKept l.repo.1 l.wants l.place
