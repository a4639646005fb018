use Rattle.std.specs.Prelude.{IfSome}
use Rattle.gx_tips.proofs.SetRefs.{AddsFront}
use Rattle.gx_tips.proofs.spans.add_all.Given as goal

abbrev pub invariant-loop-place : goal.invariant-loop-place
invariant-loop-place g l = IfSome (g.O.Objects.told l.objects) (AddsFront (g.O.Objects.stands l.objects) l.others.entries l.place-iterator l.fn.front.entries l.front.entries)
