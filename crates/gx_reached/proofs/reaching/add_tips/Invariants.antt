use Rattle.std.proofs.Common.{take}
use Rattle.std.specs.Prelude.{IfSome}
use Rattle.gx_reached.specs.Damages.{AreDamages, KeepsBad}
use Rattle.gx_reached.specs.Reaching.{AddsAll, OnlyAdds, tip_links}
use Rattle.gx_reached.proofs.reaching.add_tips.Given as goal

abbrev pub invariant-loop-change : goal.invariant-loop-change
invariant-loop-change g l = record {
  bad : AreDamages (g.O.Objects.name_of l.objects) (g.O.Objects.told l.objects) l.bad;
  keeps : KeepsBad l.fn.bad l.bad;
  only : OnlyAdds (tip_links (take l.change-index l.refs)) l.fn.front.entries l.front.entries;
  adds : IfSome (g.O.Objects.told l.objects) (λ r. AddsAll r (g.O.Objects.stands l.objects) (tip_links (take l.change-index l.refs)) l.fn.front.entries l.front.entries l.bad);
}
