use Rattle.std.proofs.Common.{false, refl, arith, length-set, ◌∙◌}
use Rattle.gx_kept.proofs.MarkedBeyond.{all_done, mark_goes, mark_stays, none_done}
use Rattle.gx_kept.proofs.beyond.unmark.Goals.{else-others-number, then-others-number}
use Rattle.gx_kept.proofs.beyond.unmark.Goals as goal

pub loop-number-init : goal.loop-number-init
loop-number-init c = (refl, none_done c.args.marks.now c.args.others.now)

pub loop-number-preserved : goal.loop-number-preserved
loop-number-preserved c =
    let old = c.args.marks.now in
    let others = c.args.others.now in
    let i = c.loop-number.number in
    let now = c.loop-number.marks in
    let h = c.loop-number.invariant in
    elim c.if-others-number.branch [
      | then-others-number w ↦ rw w.marks-is (length-set now i false ∙ h.0, mark_goes old others i now h.1 (omega (arith, c.requires, c.loop-number-test.true)) (omega (arith, c.loop-number-test.true)) w.if-others-number.true)
      | else-others-number w ↦ rw w.marks-is (h.0, mark_stays old others i now h.1 (omega (arith, c.requires, c.loop-number-test.true)) (omega (arith, c.loop-number-test.true)) w.if-others-number.false)
    ]

pub returns-clause-left : goal.returns-clause-left
returns-clause-left c = all_done c.args.marks.now c.args.others.now c.loop-number.number c.loop-number.marks (omega (arith, c.requires, c.loop-number-test.false)) c.loop-number.invariant.1
