use Rattle.gx_merge_base.proofs.Given.{common_next}
use Rattle.gx_merge_base.proofs.bases.common_to_all.Goals as goal

pub loop-commit-preserved : goal.loop-commit-preserved
loop-commit-preserved g c =
    let o = c.args.objects.now in
    common_next (g.O.Objects.stands o) c.args.front.entries c.args.commits.now (g.O.Objects.told o) c.loop-commit.commit-index _ c.from_ref.result.now c.loop-commit.common.entries c.in_ok-rights.rights.entries c.in_ok-common.common.entries
    c.loop-commit-test.true c.from_ref.ensures.value c.in_ok-rights.ensures.front c.in_ok-common.ensures.common c.loop-commit.invariant
