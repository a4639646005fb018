use Rattle.gx_questions.proofs.Found.{object_is}
use Rattle.gx_questions.proofs.objects.body.Goals as goal

pub returns-in-Some-clause-object : goal.returns-in-Some-clause-object
returns-in-Some-clause-object g c =
    object_is (g.O.Objects.name_of c.args.objects.now) c.sound_if_told.ensures.namer (g.O.Objects.told c.args.objects.now) c.args.name.now c.in-Some.object c.sound_if_told.ensures.sound c.requires.held (rw c.in-Some.is at c.in_ok-object.ensures.held)
