use Rattle.std.proofs.Common.{length}
use Rattle.std.specs.Prelude.{IfSome}
use Rattle.gx_ranges.proofs.RefLines.{AreAdded}
use Rattle.gx_ranges.proofs.refs.add_refs.Given as goal

abbrev pub invariant-loop-rest : goal.invariant-loop-rest
invariant-loop-rest g l = IfSome (g.O.Objects.told l.objects) (λ r. AreAdded (g.O.Objects.stands l.objects) r l.fn.front.entries l.rest l.front.entries)

abbrev pub decreases-loop-rest : goal.decreases-loop-rest
decreases-loop-rest g l = length l.rest
