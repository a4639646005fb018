use Rattle.std.specs.Prelude.{IfSome}
use Rattle.gx_ranges.specs.Fronts.{behind_last}
use Rattle.gx_merge_base.proofs.MetWalks.{MeetsSo}
use Rattle.gx_merge_base.proofs.meetings.meet.Given as goal

abbrev pub invariant-loop-lefts : goal.invariant-loop-lefts
invariant-loop-lefts g l = IfSome (g.O.Objects.told l.objects) (MeetsSo (g.O.Objects.stands l.objects) l.fn.lefts.entries l.fn.rights.entries l.lefts.entries l.rights.entries l.common.entries l.met.entries)

abbrev pub decreases-loop-lefts : goal.decreases-loop-lefts
decreases-loop-lefts g l = behind_last l.lefts.entries
