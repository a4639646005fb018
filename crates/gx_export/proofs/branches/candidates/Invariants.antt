use Rattle.std.proofs.Common.{◌≡◌, take}
use Rattle.std.specs.List.{filter}
use Rattle.gx_model.specs.Changes.{is_branch}
use Rattle.gx_export.specs.Branches.{shown_tips}
use Rattle.gx_export.proofs.branches.candidates.Given as goal

abbrev pub invariant-loop-tip : goal.invariant-loop-tip
invariant-loop-tip g l = shown_tips l.tips.items ≡ filter (λ ref. is_branch ref.0) (shown_tips (take l.tip-index l.refs))
