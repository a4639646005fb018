use Rattle.std.specs.Prelude.{IfSome}
use Rattle.gx_merge_base.proofs.Given.{IsCommonTo}
use Rattle.gx_merge_base.proofs.bases.common_to_all.Given as goal

abbrev pub invariant-loop-commit : goal.invariant-loop-commit
invariant-loop-commit g l = IfSome (g.O.Objects.told l.objects) (IsCommonTo (g.O.Objects.stands l.objects) l.fn.front.entries l.commits l.commit-index l.common.entries)
