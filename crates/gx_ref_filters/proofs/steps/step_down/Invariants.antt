use Rattle.std.proofs.Common.{length}
use Rattle.std.specs.Prelude.{IfSome}
use Rattle.gx_ranges.specs.Fronts.{AreBelow}
use Rattle.gx_ref_filters.proofs.Stepping.{Taking}
use Rattle.gx_ref_filters.proofs.steps.step_down.Given as goal

abbrev pub invariant-loop-there : goal.invariant-loop-there
invariant-loop-there g l = record {
  taking : IfSome (g.O.Objects.told l.objects) (Taking (g.O.Objects.stands l.objects) (l.last, l.commit) l.fn.front.entries l.fn.steps.items l.parents.entries l.front.entries l.steps.items);
  left : AreBelow l.last l.parents.entries;
  below : AreBelow l.last l.fn.front.entries → AreBelow l.last l.front.entries;
}

abbrev pub decreases-loop-there : goal.decreases-loop-there
decreases-loop-there g l = length l.parents.entries
