use Rattle.std.proofs.Common.{refl}
use Rattle.gx_model.specs.Revisions.Ranges.{between}
use Rattle.gx_rev.specs.Objects.{commit_at}
use Rattle.gx_rev.proofs.walking.mark_between.Goals as goal

pub returns-clause-marks : goal.returns-clause-marks
returns-clause-marks g c = (
  between (commit_at c.args.repo.now.1 c.in_ok-left.left) (commit_at c.args.repo.now.1 c.in_ok-right.right),
  rw (c.in_ok-left.ensures.commit, c.in_ok-right.ensures.commit) refl,
  c.mark.ensures.tips,
  c.mark-2.ensures.tips,
)
