use Rattle.std.proofs.Common.{◌≤◌}
use Rattle.std.specs.Prelude.{IfSome}
use Rattle.gx_ranges.specs.Fronts.{AreTips, behind_last}
use Rattle.gx_ranges.proofs.Tellings.{KeepsWalks}
use Rattle.gx_ranges.proofs.telling.next.Given as goal

abbrev pub invariant-loop-place : goal.invariant-loop-place
invariant-loop-place g l = record {
  wanted : IfSome (g.O.Objects.told l.objects) (AreTips (g.O.Objects.stands l.objects) l.wanted.entries);
  unwanted : IfSome (g.O.Objects.told l.objects) (AreTips (g.O.Objects.stands l.objects) l.unwanted.entries);
  keeps : IfSome (g.O.Objects.told l.objects) (KeepsWalks (g.O.Objects.stands l.objects) l.fn.wanted.entries l.fn.unwanted.entries l.wanted.entries l.unwanted.entries);
  lower : behind_last l.wanted.entries ≤ behind_last l.fn.wanted.entries;
}

abbrev pub decreases-loop-place : goal.decreases-loop-place
decreases-loop-place g l = behind_last l.wanted.entries
