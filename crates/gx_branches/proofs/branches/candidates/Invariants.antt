use Rattle.std.proofs.Common.{◌≡◌, take}
use Rattle.std.specs.List.{filter}
use Rattle.gx_model.specs.Changes.{is_branch}
use Rattle.gx_branches.proofs.branches.candidates.Given as goal

abbrev pub invariant-loop-tip : goal.invariant-loop-tip
invariant-loop-tip g l = l.tips.items ≡ filter (λ tip. is_branch tip.name.now) (take l.tip-index l.refs)
