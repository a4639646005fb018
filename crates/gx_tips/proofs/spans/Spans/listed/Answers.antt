use Rattle.gx_tips.proofs.SetRefs.{finds_listed, unwanted_held, wanted_held}
use Rattle.gx_tips.proofs.spans.Spans.listed.Goals as goal

pub listed-requires-clause-wanted : goal.listed-requires-clause-wanted
listed-requires-clause-wanted g c = let o = c.args.objects.now in wanted_held (g.O.Objects.stands o) (g.O.Objects.told o) c.args.self c.requires.spans

pub listed-requires-clause-unwanted : goal.listed-requires-clause-unwanted
listed-requires-clause-unwanted g c = let o = c.args.objects.now in unwanted_held (g.O.Objects.stands o) (g.O.Objects.told o) c.args.self c.requires.spans

pub returns-clause-names : goal.returns-clause-names
returns-clause-names g c =
    let o = c.args.objects.now in
    let s = c.sound_if_told.ensures in
    finds_listed (g.O.Objects.name_of o) s.namer (g.O.Objects.stands o) (g.O.Objects.told o) c.args.self c.listed.result s.sound c.listed.ensures.names
