use Rattle.std.proofs.Common.{◌≡◌, take}
use Rattle.std.specs.List.{filter}
use Rattle.gx_ref_filters.specs.Filters.{is_or_names}
use Rattle.gx_ref_filters.proofs.passing.naming.Given as goal

abbrev pub invariant-loop-tip : goal.invariant-loop-tip
invariant-loop-tip g l = l.found.items ≡ filter (λ tip. is_or_names l.object tip) (take l.tip-index l.refs)
