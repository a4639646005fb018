use Rattle.std.specs.Prelude.{IfSome, length}
use Rattle.gx_model.specs.Revisions.Ranges.{some_reaches}
use Rattle.gx_ranges.specs.Fronts.{AreBelow}
use Rattle.gx_rev.specs.Objects.{parents_at}
use Rattle.gx_branches.specs.Ranks.{all_unranked}
use Rattle.gx_branches.proofs.RankedFronts.{AreHanded}
use Rattle.gx_branches.proofs.ranks.lower_parents.Given as goal

abbrev pub invariant-loop-there : goal.invariant-loop-there
invariant-loop-there g l = record {
  left : IfSome (g.O.Objects.told l.objects) (λ r. AreHanded (g.O.Objects.stands l.objects) (some_reaches (parents_at r l.commit)) l.rank l.parents.entries l.fn.front.entries l.front.entries r);
  before : AreBelow l.place l.parents.entries;
  below : AreBelow l.place (all_unranked l.fn.front.entries) → AreBelow l.place (all_unranked l.front.entries);
}

abbrev pub decreases-loop-there : goal.decreases-loop-there
decreases-loop-there g l = length l.parents.entries
