use Rattle.std.proofs.Common.{◌<◌, arith}
use Rattle.gx_questions.proofs.Peeled.{no_parent, parent_is}
use Rattle.gx_questions.proofs.objects.parent_of.Goals as goal

pub returns-in-Some-clause-parent : goal.returns-in-Some-clause-parent
returns-in-Some-clause-parent g c =
    let some : 0 < c.args.number = omega arith in
    (parent_is (g.O.Objects.name_of c.args.objects.now) c.sound_if_told.ensures.namer (g.O.Objects.told c.args.objects.now) c.args.commit.now c.in-Some.parent c.args.number _ c.sound_if_told.ensures.sound c.requires.held some c.in_ok-view.ensures.commit c.in-Some.ensures).0

pub returns-in-Some-clause-held : goal.returns-in-Some-clause-held
returns-in-Some-clause-held g c =
    let some : 0 < c.args.number = omega arith in
    (parent_is (g.O.Objects.name_of c.args.objects.now) c.sound_if_told.ensures.namer (g.O.Objects.told c.args.objects.now) c.args.commit.now c.in-Some.parent c.args.number _ c.sound_if_told.ensures.sound c.requires.held some c.in_ok-view.ensures.commit c.in-Some.ensures).1

pub returns-in-None-clause-parent : goal.returns-in-None-clause-parent
returns-in-None-clause-parent g c =
    let some : 0 < c.args.number = omega arith in
    no_parent (g.O.Objects.name_of c.args.objects.now) c.sound_if_told.ensures.namer (g.O.Objects.told c.args.objects.now) c.args.commit.now c.args.number _ c.sound_if_told.ensures.sound some c.in_ok-view.ensures.commit c.in-None.ensures
