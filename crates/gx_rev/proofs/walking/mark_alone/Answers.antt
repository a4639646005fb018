use Rattle.std.proofs.Common.{refl}
use Rattle.gx_model.specs.Revisions.Ranges.{alone}
use Rattle.gx_rev.specs.Objects.{commit_at}
use Rattle.gx_rev.proofs.walking.mark_alone.Goals as goal

pub returns : goal.returns
returns g c = (alone (commit_at c.args.repo.now.1 c.in_ok-commit.commit), rw c.in_ok-commit.ensures.commit refl, c.mark.ensures.tips, c.mark_parents.ensures.tips)
