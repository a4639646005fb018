use Rattle.std.proofs.Common.{refl}
use Rattle.gx_model.specs.Revisions.Ranges.{without_one}
use Rattle.gx_rev.specs.Objects.{commit_at}
use Rattle.gx_rev.proofs.walking.mark_without_one.Goals as goal

pub returns-clause-marks : goal.returns-clause-marks
returns-clause-marks g c = (
  without_one (commit_at c.args.repo.now.1 c.in_ok-commit.commit) (commit_at c.args.repo.now.1 c.in_ok-parent.parent),
  rw (c.in_ok-commit.ensures.commit, c.in_ok-parent.ensures.parent) refl,
  c.mark.ensures.tips,
  c.mark-2.ensures.tips,
)
