use Rattle.gx_merge_base.proofs.Behind.{best_told}
use Rattle.gx_merge_base.proofs.bases.best_of.Goals as goal

pub returns-clause-best : goal.returns-clause-best
returns-clause-best g c =
    let o = c.args.objects.now in
    let s = c.sound_if_told.ensures in
    best_told (g.O.Objects.name_of o) s.namer (g.O.Objects.stands o) c.args.common.entries c.in_ok-behind.behind.entries (g.O.Objects.told o) c.listed.result s.sound s.order c.requires.tips c.in_ok-behind.ensures.behind c.listed.ensures.names
