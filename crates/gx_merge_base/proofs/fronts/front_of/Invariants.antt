use Rattle.std.specs.Prelude.{IfSome}
use Rattle.gx_merge_base.proofs.Given.{IsFrontOf}
use Rattle.gx_merge_base.proofs.fronts.front_of.Given as goal

abbrev pub invariant-loop-commit : goal.invariant-loop-commit
invariant-loop-commit g l = IfSome (g.O.Objects.told l.objects) (IsFrontOf (g.O.Objects.stands l.objects) l.commits l.commit-index l.front.entries)
