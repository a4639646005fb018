use Rattle.std.specs.Prelude.{IfSome}
use Rattle.gx_ranges.specs.Fronts.{behind_last}
use Rattle.gx_branches.specs.Ranks.{HandsDown, all_unranked}
use Rattle.gx_branches.proofs.ranks.go_down.Given as goal

abbrev pub invariant-loop-last : goal.invariant-loop-last
invariant-loop-last g l = IfSome (g.O.Objects.told l.objects) (HandsDown (g.O.Objects.stands l.objects) l.place l.fn.front.entries l.front.entries)

abbrev pub decreases-loop-last : goal.decreases-loop-last
decreases-loop-last g l = behind_last (all_unranked l.front.entries)
