use Rattle.std.specs.Prelude.{IfSome}
use Rattle.gx_ranges.specs.Fronts.{behind_last}
use Rattle.gx_ref_filters.proofs.Stepping.{Going}
use Rattle.gx_ref_filters.proofs.steps.steps_to.Given as goal

abbrev pub invariant-loop-last : goal.invariant-loop-last
invariant-loop-last g l = IfSome (g.O.Objects.told l.objects) (Going (g.O.Objects.stands l.objects) l.place l.fn.front.entries l.front.entries l.steps.items)

abbrev pub decreases-loop-last : goal.decreases-loop-last
decreases-loop-last g l = behind_last l.front.entries
