use Rattle.gx_branches.proofs.RankedFronts.{below_lowered}
use Rattle.gx_branches.proofs.Told.{is_lowered}
use Rattle.gx_branches.proofs.ranks.lower.Goals as goal

pub returns-clause-below : goal.returns-clause-below
returns-clause-below g c = λ limit l h. below_lowered limit c.args.place c.min-least.result c.args.commit.now c.args.front.now.entries c.insert.new.self.entries c.in_ok-insert.ensures.entries l h

pub returns-clause-lowers : goal.returns-clause-lowers
returns-clause-lowers g c =
    let o = c.args.objects.now in
    let s = c.sound_if_told.ensures in
    is_lowered (g.O.Objects.name_of o) s.namer (g.O.Objects.stands o) (g.O.Objects.told o) s.sound s.order c.args.place c.args.rank c.rank_at.result c.min-least.result c.args.commit.now c.args.front.now.entries c.insert.new.self.entries
    c.rank_at.ensures c.min-least.ensures c.in_ok-insert.ensures.entries c.in_ok-insert.ensures.ordered c.requires.tip c.requires.ranked
