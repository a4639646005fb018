use Rattle.std.proofs.Common.{refl}
use Rattle.gx_ranges.proofs.Steps.{commit_is_there, text_is_told}
use Rattle.gx_ranges.proofs.fronts.commit_at.Goals as goal

pub returns-in-Ok-clause-commit : goal.returns-in-Ok-clause-commit
returns-in-Ok-clause-commit g c =
    let o = c.args.objects.now in
    let s = c.sound_if_told.ensures in
    let object = c.in_ok-object.object in
    commit_is_there (g.O.Objects.name_of o) s.namer (g.O.Objects.stands o) c.args.commit.now c.args.place object.kind object.body.now (g.O.Objects.told o) object.body c.in-Ok.view refl s.sound c.requires.tip c.in_ok-object.ensures.held c.in-Ok.ensures.only

pub returns-in-Err-clause-fault : goal.returns-in-Err-clause-fault
returns-in-Err-clause-fault g c = λ _.
    let o = c.args.objects.now in
    let s = c.sound_if_told.ensures in
    let object = c.in_ok-object.object in
    text_is_told (g.O.Objects.name_of o) s.namer (g.O.Objects.stands o) c.args.commit.now c.args.place object.kind object.body.now (g.O.Objects.told o) s.sound c.requires.tip c.in_ok-object.ensures.held c.in-Err.ensures.only
