use Rattle.gx_ranges.proofs.Steps.{parts_of_it}
use Rattle.gx_ranges.proofs.fronts.add_parents.Goals as goal

pub add_parents_of-requires-clause-parts : goal.add_parents_of-requires-clause-parts
add_parents_of-requires-clause-parts g c =
    let o = c.args.objects.now in
    parts_of_it (g.O.Objects.name_of o) c.sound_if_told.ensures.namer (g.O.Objects.stands o) c.args.commit.now (g.O.Objects.told o) _ c.in_ok-view.ensures.commit
