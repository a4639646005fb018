use Rattle.std.proofs.Common.{◌≡◌}
use Rattle.gx_small_repo.specs.Small.{IsSmallOfTold}
use Rattle.gx_small_repo.proofs.small.put_wanted.Given as goal

abbrev pub invariant-loop-kind : goal.invariant-loop-kind
invariant-loop-kind g l = record {
  small : IsSmallOfTold (g.O.Objects.told l.origin.objects.now) l.repo.1;
  namer : l.repo.0 ≡ l.fn.repo.0;
}
