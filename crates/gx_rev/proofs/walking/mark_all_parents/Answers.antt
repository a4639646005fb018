use Rattle.std.proofs.Common.{refl}
use Rattle.gx_model.specs.Revisions.Ranges.{all_parents}
use Rattle.gx_rev.specs.Objects.{commit_at}
use Rattle.gx_rev.proofs.Tips.{none_more}
use Rattle.gx_rev.proofs.walking.mark_all_parents.Goals as goal

pub returns : goal.returns
returns g c = λ excluded. (all_parents (commit_at c.args.repo.now.1 c.in_ok-commit.commit), rw c.in_ok-commit.ensures.commit refl, c.mark_parents.ensures.tips, none_more c.args.repo.now.1 excluded)
