use Rattle.gx_merge_base.proofs.Given.{ancestor_told}
use Rattle.gx_merge_base.proofs.bases.is_ancestor.Goals as goal

pub returns-clause-answer : goal.returns-clause-answer
returns-clause-answer g c =
    let o = c.args.objects.now in
    let s = c.sound_if_told.ensures in
    ancestor_told (g.O.Objects.name_of o) s.namer (g.O.Objects.stands o) c.args.ancestor.now c.args.descendant.now c.from_ref.result.now c.in_ok-front.front.entries c.in_ok-place.place (g.O.Objects.told o) c.is_reached.result
    c.from_ref.ensures.value s.sound s.order c.requires.ancestor c.in_ok-place.ensures.place c.in_ok-front.ensures.front c.is_reached.ensures.answer
