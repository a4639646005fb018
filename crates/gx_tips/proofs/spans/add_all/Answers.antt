use Rattle.gx_tips.proofs.SetRefs.{one_added}
use Rattle.gx_tips.proofs.spans.add_all.Goals as goal

pub loop-place-preserved : goal.loop-place-preserved
loop-place-preserved g c =
    let o = c.args.objects.now in
    let s = c.sound_if_told.ensures in
    one_added (g.O.Objects.stands o) c.args.others.now.entries c.args.front.now.entries (g.O.Objects.name_of o) s.namer (g.O.Objects.told o) (c.in-Some.place.now, c.in-Some.commit.now) c.loop-place.place-iterator c.next.new.self
    c.loop-place.front.entries c.insert.new.self.entries c.in-Some.ensures.steps c.in_ok-insert.ensures.entries s.sound s.order c.requires.others c.loop-place.invariant
