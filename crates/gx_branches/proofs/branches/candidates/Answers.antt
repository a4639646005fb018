use Rattle.std.proofs.Common.{◌∙◌, sym, arith}
use Rattle.gx_branches.proofs.Found.{all_passed, one_more, one_passed}
use Rattle.gx_branches.proofs.branches.candidates.Goals as goal
use Rattle.gx_branches.proofs.branches.candidates.Goals.{then-is_branch+in_ok-push, else-is_branch}

pub loop-tip-init : goal.loop-tip-init
loop-tip-init g c = c.new-tips.ensures.items

pub loop-tip-preserved : goal.loop-tip-preserved
loop-tip-preserved g c =
    let l = c.loop-tip in
    let refs = c.args.refs.now in
    elim c.if-is_branch.branch [
      | then-is_branch+in_ok-push w ↦ rw w.tips-is (one_more refs l.tips.items w.push.new.self.items l.tip-index c.loop-tip-test.true (sym c.is_branch.ensures ∙ w.if-is_branch.true) l.invariant w.in_ok-push.ensures.items)
      | else-is_branch w ↦ rw w.tips-is (one_passed refs l.tips.items l.tip-index c.loop-tip-test.true (sym c.is_branch.ensures ∙ w.if-is_branch.false) l.invariant)
    ]

pub returns : goal.returns
returns g c =
    let l = c.loop-tip in
    all_passed c.args.refs.now l.tips.items c.extend_from_slice.new.self.items l.tip-index (omega (arith, c.loop-tip-test.false)) l.invariant c.in_ok-extend_from_slice.ensures.items
