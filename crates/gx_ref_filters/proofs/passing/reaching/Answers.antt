use Rattle.gx_ref_filters.proofs.Kept.{reaching_kept, reads_tips}
use Rattle.gx_ref_filters.proofs.passing.reaching.Goals as goal

pub steps_to-requires : goal.steps_to-requires
steps_to-requires g c =
    let o = c.args.objects.now in
    record { tips = reads_tips (g.O.Objects.stands o) (g.O.Objects.told o) c.args.refs.now c.in_ok-front.front.entries c.in_ok-front.ensures.front }

pub returns-clause-kept : goal.returns-clause-kept
returns-clause-kept g c =
    let o = c.args.objects.now in
    let s = c.sound_if_told.ensures in
    reaching_kept (g.O.Objects.name_of o) s.namer (g.O.Objects.stands o) (g.O.Objects.told o) c.args.commit.now c.in_ok-place.place c.args.so c.in_ok-front.front.entries c.in_ok-steps.steps.items c.in_ok-places.places c.args.refs.now c.in_ok-standing.field-0.items
    c.in_ok-standing.ensures.found c.in_ok-places.ensures s.sound s.order c.requires.refs c.requires.commit c.in_ok-place.ensures.place c.in_ok-front.ensures.front c.in_ok-steps.ensures.steps
