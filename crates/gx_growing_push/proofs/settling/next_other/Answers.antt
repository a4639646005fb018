use Rattle.std.proofs.Common.{sym, ◌∙◌}
use Rattle.gx_growing_push.proofs.KeptRefs.{one_found, one_passed}
use Rattle.gx_growing_push.proofs.settling.next_other.Goals as goal

pub returns-then-not-contains-clause-other : goal.returns-then-not-contains-clause-other
returns-then-not-contains-clause-other g c =
    one_found c.args.names.now c.args.refs.now c.args.from c.loop-place.place c.loop-place.invariant _ c.loop-place-test.true (sym c.contains.ensures ∙ c.if-not-contains.true)

pub loop-place-preserved : goal.loop-place-preserved
loop-place-preserved g c =
    one_passed c.args.names.now c.args.refs.now c.args.from c.loop-place.place c.loop-place.invariant _ c.loop-place-test.true (sym c.contains.ensures ∙ c.if-not-contains.false)
