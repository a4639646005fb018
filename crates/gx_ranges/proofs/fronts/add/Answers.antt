use Rattle.gx_ranges.proofs.Steps.{adds_one}
use Rattle.gx_ranges.proofs.fronts.add.Goals as goal

pub returns-clause-adds : goal.returns-clause-adds
returns-clause-adds g c =
    let o = c.args.objects.now in
    let s = c.sound_if_told.ensures in
    adds_one (g.O.Objects.name_of o) s.namer (g.O.Objects.stands o) (g.O.Objects.told o) c.args.commit.now c.in_ok-place.place c.args.front.now.entries c.insert.new.self.entries c.in_ok-insert.ensures.entries
    s.sound s.order c.requires.tips c.requires.held c.in_ok-place.ensures.place
