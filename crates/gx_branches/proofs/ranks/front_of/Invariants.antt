use Rattle.std.specs.Prelude.{IfSome}
use Rattle.gx_branches.proofs.Tips.{HoldFirst}
use Rattle.gx_branches.proofs.ranks.front_of.Given as goal

abbrev pub invariant-loop-rank : goal.invariant-loop-rank
invariant-loop-rank g l = IfSome (g.O.Objects.told l.objects) (HoldFirst (g.O.Objects.stands l.objects) l.tips l.rank l.front.entries)
