use Rattle.std.proofs.Common.{sym, ◌∙◌, arith}
use Rattle.gx_growing_push.proofs.KeptRefs.{all_met, none_met, same_passed}
use Rattle.gx_growing_push.proofs.settling.are_others_kept.Goals as goal

pub loop-held-preserved-then-contains : goal.loop-held-preserved-then-contains
loop-held-preserved-then-contains g c =
    same_passed c.args.names.now c.args.before.now c.args.after.now c.loop-held.place c.loop-held.held-index c.loop-held.invariant _ c.loop-held-test.true (sym c.contains.ensures ∙ c.if-contains.true)

pub returns-in_default : goal.returns-in_default
returns-in_default g c =
    none_met c.args.names.now c.args.before.now c.args.after.now c.loop-held.place c.loop-held.held-index c.loop-held.invariant _ c.loop-held-test.true (sym c.contains.ensures ∙ c.if-contains.false) c.in_default.ensures.other

pub returns : goal.returns
returns g c =
    all_met c.args.names.now c.args.before.now c.args.after.now c.loop-held.place c.loop-held.held-index c.loop-held.invariant (omega (arith, c.loop-held-test.false)) c.next_other-2.result c.next_other-2.ensures.other c.is_none.result c.is_none.ensures
