use Rattle.std.specs.Prelude.{IfSome}
use Rattle.gx_branches.proofs.Tips.{RanksFirst}
use Rattle.gx_branches.proofs.ranks.ranks_of.Given as goal

abbrev pub invariant-loop-commit : goal.invariant-loop-commit
invariant-loop-commit g l =
    IfSome (g.O.Objects.told l.objects) (RanksFirst (g.O.Objects.stands l.objects) l.fn.front.entries l.count l.commits l.commit-index l.front.entries l.ranks.items)
