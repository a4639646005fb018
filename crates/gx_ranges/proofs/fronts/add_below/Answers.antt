use Rattle.std.proofs.Common.{◌<◌, arith, subst, sym}
use Rattle.gx_ranges.specs.Fronts.{AreBelow}
use Rattle.gx_ranges.proofs.Steps.{adds_one}
use Rattle.gx_ranges.proofs.Tips.{below_inserted}
use Rattle.gx_ranges.proofs.fronts.add_below.Goals as goal

pub returns-clause-below : goal.returns-clause-below
returns-clause-below g c = λ h.
    let low : c.in_ok-place.place < c.args.limit = omega arith in
    subst (AreBelow c.args.limit) (sym c.in_ok-insert.ensures.entries) (below_inserted c.args.limit c.in_ok-place.place c.args.commit.now c.args.front.now.entries low h)

pub returns-clause-adds : goal.returns-clause-adds
returns-clause-adds g c =
    let o = c.args.objects.now in
    let s = c.sound_if_told.ensures in
    adds_one (g.O.Objects.name_of o) s.namer (g.O.Objects.stands o) (g.O.Objects.told o) c.args.commit.now c.in_ok-place.place c.args.front.now.entries c.insert.new.self.entries c.in_ok-insert.ensures.entries
    s.sound s.order c.requires.tips c.requires.held c.in_ok-place.ensures.place
