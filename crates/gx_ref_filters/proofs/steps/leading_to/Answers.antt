use Rattle.std.proofs.Common.{sym, ◌∙◌}
use Rattle.gx_ref_filters.proofs.Leading.{first_place, place_added, place_passed}
use Rattle.gx_ref_filters.proofs.steps.leading_to.Goals as goal

pub loop-above-init : goal.loop-above-init
loop-above-init g c = first_place c.args.place c.args.steps.items c.new-places.result c.insert.new.self c.new-places.ensures.empty c.in_ok-insert.ensures.updates.0

pub loop-above-preserved-in_ok-insert-2 : goal.loop-above-preserved-in_ok-insert-2
loop-above-preserved-in_ok-insert-2 g c =
    let l = c.loop-above in
    place_added c.args.place c.args.steps.items l.left.items c.pop.new.self.items c.in-Some.above c.in-Some.below l.places c.in-Some.ensures.items l.invariant
    c.insert-then-contains.new.self (sym c.contains.ensures ∙ c.if-contains.true) c.in_ok-insert-2.ensures.updates.0

pub loop-above-preserved : goal.loop-above-preserved
loop-above-preserved g c =
    let l = c.loop-above in
    place_passed c.args.place c.args.steps.items l.left.items c.pop.new.self.items c.in-Some.above c.in-Some.below l.places c.in-Some.ensures.items l.invariant (sym c.contains.ensures ∙ c.if-contains.false)
