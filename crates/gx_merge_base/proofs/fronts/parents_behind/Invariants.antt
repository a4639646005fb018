use Rattle.std.specs.Prelude.{IfSome}
use Rattle.gx_merge_base.proofs.Given.{AreBehind}
use Rattle.gx_merge_base.proofs.fronts.parents_behind.Given as goal

abbrev pub invariant-loop-place : goal.invariant-loop-place
invariant-loop-place g l = IfSome (g.O.Objects.told l.objects) (AreBehind (g.O.Objects.stands l.objects) l.front.entries l.place-iterator l.behind.entries)
