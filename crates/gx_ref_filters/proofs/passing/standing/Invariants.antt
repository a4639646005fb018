use Rattle.std.proofs.Common.{◌≡◌, take}
use Rattle.std.specs.BTreeSet.{contains}
use Rattle.std.specs.Ordering.{nat_cmp}
use Rattle.std.specs.List.{filter}
use Rattle.gx_ref_filters.specs.Filters.{agrees}
use Rattle.gx_ref_filters.proofs.passing.standing.Given as goal

abbrev pub invariant-loop-tip : goal.invariant-loop-tip
invariant-loop-tip g l = l.found.items ≡ filter (λ tip. agrees l.so (contains nat_cmp l.places tip.place)) (take l.tip-index l.refs)
