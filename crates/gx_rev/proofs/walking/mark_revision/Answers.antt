use Rattle.std.proofs.Common.{refl}
use Rattle.gx_model.specs.Revisions.Ranges.{with_ancestors, without_ancestors}
use Rattle.gx_rev.specs.Objects.{commit_at}
use Rattle.gx_rev.proofs.Tips.{none_more}
use Rattle.gx_rev.proofs.walking.mark_revision.Goals as goal

pub returns-clause-included : goal.returns-clause-included
returns-clause-included g c = λ rest. (with_ancestors (commit_at c.args.repo.now.1 c.in_ok-commit.commit), rw c.in_ok-commit.ensures.commit refl, c.mark.ensures.tips, none_more c.args.repo.now.1 rest)

pub returns-clause-excluded : goal.returns-clause-excluded
returns-clause-excluded g c = λ rest. (without_ancestors (commit_at c.args.repo.now.1 c.in_ok-commit.commit), rw c.in_ok-commit.ensures.commit refl, none_more c.args.repo.now.1 rest, c.mark.ensures.tips)
