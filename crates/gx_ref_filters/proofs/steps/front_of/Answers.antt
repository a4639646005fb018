use Rattle.gx_ref_filters.proofs.Held.{no_refs_held, one_ref_held}
use Rattle.gx_ref_filters.proofs.steps.front_of.Goals as goal

pub loop-tip-init : goal.loop-tip-init
loop-tip-init g c =
    let o = c.args.objects.now in
    no_refs_held (g.O.Objects.stands o) (g.O.Objects.told o) c.args.refs.now c.new-front.result.entries c.new-front.ensures.empty

pub loop-tip-preserved : goal.loop-tip-preserved
loop-tip-preserved g c =
    let o = c.args.objects.now in
    let s = c.sound_if_told.ensures in
    one_ref_held (g.O.Objects.name_of o) s.namer (g.O.Objects.stands o) (g.O.Objects.told o) c.args.refs.now c.loop-tip.tip-index _ c.loop-tip.front.entries c.insert.new.self.entries c.loop-tip-test.true c.in_ok-insert.ensures.entries
    s.sound s.order c.requires.refs c.loop-tip.invariant
