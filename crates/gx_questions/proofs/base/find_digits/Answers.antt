use Rattle.gx_questions.proofs.Bases.{absent_is, ambiguous_is, unique_is}
use Rattle.gx_questions.proofs.base.find_digits.Goals as goal

pub returns-in-Unique-clause-value : goal.returns-in-Unique-clause-value
returns-in-Unique-clause-value g c =
    (unique_is (g.O.Objects.name_of c.args.objects.now) c.sound_if_told.ensures.namer (g.O.Objects.told c.args.objects.now) c.args.digits.now c.in-Unique.name c.sound_if_told.ensures.sound (rw c.in-Unique.is at c.in_ok-name.ensures.name)).0

pub returns-in-Unique-clause-held : goal.returns-in-Unique-clause-held
returns-in-Unique-clause-held g c =
    (unique_is (g.O.Objects.name_of c.args.objects.now) c.sound_if_told.ensures.namer (g.O.Objects.told c.args.objects.now) c.args.digits.now c.in-Unique.name c.sound_if_told.ensures.sound (rw c.in-Unique.is at c.in_ok-name.ensures.name)).1

pub returns-in-Absent-clause-value : goal.returns-in-Absent-clause-value
returns-in-Absent-clause-value g c =
    absent_is (g.O.Objects.name_of c.args.objects.now) c.sound_if_told.ensures.namer (g.O.Objects.told c.args.objects.now) c.args.digits.now c.sound_if_told.ensures.sound (rw c.in-Absent.is at c.in_ok-name.ensures.name)

pub returns-in-Ambiguous-clause-value : goal.returns-in-Ambiguous-clause-value
returns-in-Ambiguous-clause-value g c =
    ambiguous_is (g.O.Objects.name_of c.args.objects.now) c.sound_if_told.ensures.namer (g.O.Objects.told c.args.objects.now) c.args.digits.now c.sound_if_told.ensures.sound (rw c.in-Ambiguous.is at c.in_ok-name.ensures.name)
