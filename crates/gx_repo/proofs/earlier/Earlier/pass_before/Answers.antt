use Rattle.std.proofs.Common.{subst}
use Rattle.std.specs.List.{AllByRecursion}
use Rattle.gx_repo.specs.Earlier.{IsThere}
use Rattle.gx_repo.proofs.earlier.Earlier.pass_before.Goals as goal

pub returns-then-ge : goal.returns-then-ge
returns-then-ge c = λ records h. subst (AllByRecursion (IsThere records)) c.in-Some.ensures.steps (c.loop-next.invariant.1 records h)

pub loop-next-preserved : goal.loop-next-preserved
loop-next-preserved c = (c.loop-next.invariant.0, λ records h. (subst (AllByRecursion (IsThere records)) c.in-Some.ensures.steps (c.loop-next.invariant.1 records h)).1)
