use Rattle.std.specs.Prelude.{IfSome}
use Rattle.std.specs.List.{AllByRecursion}
use Rattle.gx_reached.specs.Damages.{AreDamages, IsBad, KeepsBad}
use Rattle.gx_reached.specs.Reaching.{IsStep, IsVisited, Waits, behind_last, targets_of}
use Rattle.gx_reached.proofs.Falling.{FallsTo}
use Rattle.gx_reached.proofs.Leading.{AreLed}
use Rattle.gx_reached.proofs.reaching.reached.Given as goal

abbrev pub invariant-loop-place : goal.invariant-loop-place
invariant-loop-place g l = record {
  bad : AreDamages (g.O.Objects.name_of l.objects) (g.O.Objects.told l.objects) l.bad;
  keeps : KeepsBad l.fn.bad l.bad;
  falls : FallsTo l.order.items l.front.entries;
  led : AreLed (g.O.Objects.name_of l.objects) (targets_of l.refs) l.order.items l.front.entries;
  steps : IfSome (g.O.Objects.told l.objects) (λ r. AllByRecursion (IsStep r (g.O.Objects.stands l.objects)) l.front.entries);
  visited : IfSome (g.O.Objects.told l.objects) (λ r. IsVisited r (g.O.Objects.stands l.objects) (IsBad l.bad) (Waits l.front.entries l.bad) (targets_of l.refs) l.order.items);
}

abbrev pub decreases-loop-place : goal.decreases-loop-place
decreases-loop-place g l = behind_last l.front.entries
