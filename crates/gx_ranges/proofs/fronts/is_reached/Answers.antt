use Rattle.gx_ranges.proofs.Steps.{found_at_once, found_later}
use Rattle.gx_ranges.proofs.fronts.is_reached.Goals as goal

pub returns-then-contains_key-clause-answer : goal.returns-then-contains_key-clause-answer
returns-then-contains_key-clause-answer g c =
    let o = c.args.objects.now in
    let s = c.sound_if_told.ensures in
    found_at_once (g.O.Objects.name_of o) s.namer (g.O.Objects.stands o) (g.O.Objects.told o) c.args.place c.args.front.now.entries c.contains_key.result c.contains_key.ensures c.if-contains_key.true s.sound s.order c.requires.tips

pub returns-clause-answer : goal.returns-clause-answer
returns-clause-answer g c =
    let o = c.args.objects.now in
    let s = c.sound_if_told.ensures in
    found_later (g.O.Objects.name_of o) s.namer (g.O.Objects.stands o) (g.O.Objects.told o) c.args.place c.args.front.now.entries c.go_down.new.front.entries c.contains_key-2.result c.contains_key-2.ensures c.in_ok-go_down.ensures.below s.sound s.order c.in_ok-go_down.ensures.down
