use Rattle.std.proofs.Common.{length}
use Rattle.std.specs.Prelude.{IfSome}
use Rattle.gx_tips.proofs.RefTips.{AreRead}
use Rattle.gx_tips.proofs.tips.tips_of.Given as goal

abbrev pub invariant-loop-rest : goal.invariant-loop-rest
invariant-loop-rest g l = IfSome (g.O.Objects.told l.objects) (λ r. AreRead (g.O.Objects.stands l.objects) r l.rest l.tips.items)

abbrev pub decreases-loop-rest : goal.decreases-loop-rest
decreases-loop-rest g l = length l.rest
