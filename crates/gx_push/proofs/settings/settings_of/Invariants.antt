use Rattle.gx_rev.specs.Parents.{HoldsParents}
use Rattle.gx_push.specs.Settings.{ref_of, set_of, shown_setting}
use Rattle.gx_push.proofs.ReadLines.{AreRead}
use Rattle.gx_push.proofs.settings.settings_of.Given as goal

abbrev pub invariant-loop-place : goal.invariant-loop-place
invariant-loop-place g l = HoldsParents l.repo.1 l.parents × AreRead {A = g.row.A.Denot} ref_of (set_of l.forced l.repo.1) shown_setting l.lines l.list.items l.names l.place
