use Rattle.gx_ref_filters.proofs.Kept.{points_kept}
use Rattle.gx_ref_filters.proofs.passing.pointing_at.Goals as goal

pub returns-clause-kept : goal.returns-clause-kept
returns-clause-kept g c =
    let o = c.args.objects.now in
    let s = c.sound_if_told.ensures in
    points_kept (g.O.Objects.name_of o) s.namer (g.O.Objects.stands o) (g.O.Objects.told o) c.args.object.now c.args.refs.now c.in_ok-naming.field-0.items c.in_ok-naming.ensures.found s.sound c.requires.refs c.requires.object
