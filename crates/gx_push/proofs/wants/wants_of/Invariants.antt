use Rattle.gx_push.specs.Wants.{ref_of, shown_want, want_of}
use Rattle.gx_push.proofs.ReadLines.{AreRead}
use Rattle.gx_push.proofs.wants.wants_of.Given as goal

abbrev pub invariant-loop-place : goal.invariant-loop-place
invariant-loop-place g l = AreRead {A = g.row.A.Denot} ref_of (want_of l.repo.1.refs) shown_want l.lines l.list.items l.names l.place
