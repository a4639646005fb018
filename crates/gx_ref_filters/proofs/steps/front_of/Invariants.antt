use Rattle.std.proofs.Common.{take}
use Rattle.std.specs.Prelude.{IfSome}
use Rattle.gx_ref_filters.specs.Steps.{HoldsRefs}
use Rattle.gx_ref_filters.proofs.steps.front_of.Given as goal

abbrev pub invariant-loop-tip : goal.invariant-loop-tip
invariant-loop-tip g l = IfSome (g.O.Objects.told l.objects) (λ r. HoldsRefs (g.O.Objects.stands l.objects) (take l.tip-index l.refs) r l.front.entries)
