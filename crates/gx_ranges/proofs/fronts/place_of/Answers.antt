use Rattle.std.proofs.Common.{subst}
use Rattle.std.specs.Prelude.{IfSome}
use Rattle.gx_objects.specs.Answers.{StandsThere}
use Rattle.gx_ranges.proofs.Steps.{place_is_told}
use Rattle.gx_ranges.proofs.fronts.place_of.Goals as goal

pub returns-in-None-clause-fault : goal.returns-in-None-clause-fault
returns-in-None-clause-fault g c = λ _.
    let o = c.args.objects.now in
    let s = c.sound_if_told.ensures in
    let told = g.O.Objects.told o in
    let stands = g.O.Objects.stands o in
    let called = c.args.commit.now in
    place_is_told (g.O.Objects.name_of o) s.namer stands told called s.sound s.order c.requires.held (subst (λ found. IfSome told (λ r. StandsThere stands called.bytes r found)) c.in-None.is c.in_ok-place.ensures.place)
