use Rattle.std.proofs.Common.{refl}
use Rattle.gx_model.specs.Revisions.Ranges.{apart, reaches}
use Rattle.gx_rev.specs.Objects.{commit_at}
use Rattle.gx_rev.proofs.Tips.{both_more}
use Rattle.gx_rev.proofs.walking.mark_apart.Goals as goal

pub returns-clause-marks : goal.returns-clause-marks
returns-clause-marks g c =
    let r = c.args.repo.now.1 in
    let left = commit_at r c.in_ok-left.left in
    let right = commit_at r c.in_ok-right.right in (
      apart left right,
      rw (c.in_ok-left.ensures.commit, c.in_ok-right.ensures.commit) refl,
      both_more r (reaches left) (reaches right) c.args.included.now c.mark.new.marks c.mark-2.new.marks c.mark.ensures.tips c.mark-2.ensures.tips,
      c.in_ok-mark_common.ensures.marks,
    )
