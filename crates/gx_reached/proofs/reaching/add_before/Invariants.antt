use Rattle.std.proofs.Common.{map, take}
use Rattle.std.specs.Prelude.{IfSome}
use Rattle.gx_reached.specs.Damages.{AreDamages, KeepsBad}
use Rattle.gx_reached.specs.Links.{shown_link}
use Rattle.gx_reached.specs.Reaching.{AddsAll, AreBelow, OnlyAdds}
use Rattle.gx_reached.proofs.reaching.add_before.Given as goal

abbrev pub invariant-loop-link : goal.invariant-loop-link
invariant-loop-link g l = record {
  bad : AreDamages (g.O.Objects.name_of l.objects) (g.O.Objects.told l.objects) l.bad;
  keeps : KeepsBad l.fn.bad l.bad;
  below : AreBelow l.limit l.fn.front.entries → AreBelow l.limit l.front.entries;
  only : OnlyAdds (map shown_link (take l.link-index l.links)) l.fn.front.entries l.front.entries;
  adds : IfSome (g.O.Objects.told l.objects) (λ r. AddsAll r (g.O.Objects.stands l.objects) (map shown_link (take l.link-index l.links)) l.fn.front.entries l.front.entries l.bad);
}
