use Rattle.gx_merge_base.proofs.Given.{behind_tips, next_behind, next_tip}
use Rattle.gx_merge_base.proofs.fronts.parents_behind.Goals as goal

pub add_parents-requires-clause-tips : goal.add_parents-requires-clause-tips
add_parents-requires-clause-tips g c =
    let o = c.args.objects.now in
    behind_tips (g.O.Objects.stands o) c.args.front.now.entries (g.O.Objects.told o) c.loop-place.place-iterator c.loop-place.behind.entries c.loop-place.invariant

pub add_parents-requires-clause-tip : goal.add_parents-requires-clause-tip
add_parents-requires-clause-tip g c =
    let o = c.args.objects.now in
    next_tip (g.O.Objects.stands o) c.args.front.now.entries (g.O.Objects.told o) (c.in-Some.place.now, c.in-Some.commit.now) c.loop-place.place-iterator c.next.new.self c.loop-place.behind.entries c.in-Some.ensures.steps c.requires.tips c.loop-place.invariant

pub loop-place-preserved : goal.loop-place-preserved
loop-place-preserved g c =
    let o = c.args.objects.now in
    next_behind (g.O.Objects.stands o) c.args.front.now.entries (g.O.Objects.told o) (c.in-Some.place.now, c.in-Some.commit.now) c.loop-place.place-iterator c.next.new.self c.loop-place.behind.entries c.add_parents.new.front.entries
    c.in-Some.ensures.steps c.in_ok-add_parents.ensures.adds c.loop-place.invariant
