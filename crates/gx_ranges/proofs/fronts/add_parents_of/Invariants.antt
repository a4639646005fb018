use Rattle.std.specs.Prelude.{IfSome}
use Rattle.gx_ranges.specs.Fronts.{AreBelow}
use Rattle.gx_ranges.proofs.Steps.{AddsFirst}
use Rattle.gx_ranges.proofs.fronts.add_parents_of.Given as goal

abbrev pub invariant-loop-number : goal.invariant-loop-number
invariant-loop-number g l = record {
  adds : IfSome (g.O.Objects.told l.objects) (AddsFirst (g.O.Objects.stands l.objects) l.number l.commit l.fn.front.entries l.front.entries);
  below : AreBelow l.place l.fn.front.entries → AreBelow l.place l.front.entries;
}
