use Rattle.std.proofs.Common.{length}
use Rattle.std.specs.Prelude.{IfSome}
use Rattle.gx_tips.proofs.Places.{AreFound}
use Rattle.gx_tips.proofs.spans.reached_places.Given as goal

abbrev pub invariant-loop-place : goal.invariant-loop-place
invariant-loop-place g l = IfSome (g.O.Objects.told l.objects) (AreFound (g.O.Objects.stands l.objects) l.fn.front.entries l.fn.places l.left l.reached l.front.entries)

abbrev pub decreases-loop-place : goal.decreases-loop-place
decreases-loop-place g l = length l.left.keys
