use Rattle.gx_model.specs.Records.HistoryOf.{history_of}
use Rattle.gx_model.specs.Revisions.Denotation.{base_value, begun_by, the_one}
use Rattle.gx_rev.specs.Objects.{value_at}
use Rattle.gx_questions.proofs.Bases.{by_its_digits, by_its_ref, by_name, by_no_name, by_nothing}
use Rattle.gx_questions.proofs.Told.{given_alike}
use Rattle.gx_questions.proofs.base.eval_base.Goals as goal

pub returns-in-Some-2-clause-value : goal.returns-in-Some-2-clause-value
returns-in-Some-2-clause-value g c =
    (by_name (g.O.Objects.name_of c.args.objects.now) c.sound_if_told.ensures.namer (g.O.Objects.told c.args.objects.now) c.args.base.now c.in-Some.name (g.O.Objects.stands c.args.objects.now) _ c.sound_if_told.ensures.sound c.in-Some.ensures (rw c.in-Some-2.is at c.in_ok-place.ensures.place)).0

pub returns-in-Some-2-clause-held : goal.returns-in-Some-2-clause-held
returns-in-Some-2-clause-held g c =
    (by_name (g.O.Objects.name_of c.args.objects.now) c.sound_if_told.ensures.namer (g.O.Objects.told c.args.objects.now) c.args.base.now c.in-Some.name (g.O.Objects.stands c.args.objects.now) _ c.sound_if_told.ensures.sound c.in-Some.ensures (rw c.in-Some-2.is at c.in_ok-place.ensures.place)).1

pub returns-in-None-clause-value : goal.returns-in-None-clause-value
returns-in-None-clause-value g c =
    by_no_name (g.O.Objects.name_of c.args.objects.now) c.sound_if_told.ensures.namer (g.O.Objects.told c.args.objects.now) c.args.base.now c.in-Some.name (g.O.Objects.stands c.args.objects.now) c.sound_if_told.ensures.sound c.in-Some.ensures (rw c.in-None.is at c.in_ok-place.ensures.place)

pub returns-in-Some-3-clause-value : goal.returns-in-Some-3-clause-value
returns-in-Some-3-clause-value g c =
    (by_its_ref (g.O.Objects.name_of c.args.objects.now) c.sound_if_told.ensures.namer (g.O.Objects.told c.args.objects.now) c.args.base.now c.in-Some-3.name c.sound_if_told.ensures.sound c.in_default.ensures (rw c.in-Some-3.is at c.in_ok-name.ensures.object)).0

pub returns-in-Some-3-clause-held : goal.returns-in-Some-3-clause-held
returns-in-Some-3-clause-held g c =
    (by_its_ref (g.O.Objects.name_of c.args.objects.now) c.sound_if_told.ensures.namer (g.O.Objects.told c.args.objects.now) c.args.base.now c.in-Some-3.name c.sound_if_told.ensures.sound c.in_default.ensures (rw c.in-Some-3.is at c.in_ok-name.ensures.object)).1

pub returns-then-is_abbreviation-clause-value : goal.returns-then-is_abbreviation-clause-value
returns-then-is_abbreviation-clause-value g c =
    given_alike (g.O.Objects.told c.args.objects.now) value_at (λ r. the_one (g.O.Objects.name_of c.args.objects.now) (begun_by (g.O.Objects.name_of c.args.objects.now) (history_of r) c.args.base.now)) (λ r. base_value (g.O.Objects.name_of c.args.objects.now) (history_of r) c.args.base.now) c.find_digits.result
    (by_its_digits (g.O.Objects.name_of c.args.objects.now) c.sound_if_told.ensures.namer (g.O.Objects.told c.args.objects.now) c.args.base.now c.sound_if_told.ensures.sound c.in_default.ensures (rw c.in_default-2.is at c.in_ok-name.ensures.object) c.if-is_abbreviation.ensures) c.find_digits.ensures.value

pub returns-else-is_abbreviation-clause-value : goal.returns-else-is_abbreviation-clause-value
returns-else-is_abbreviation-clause-value g c =
    by_nothing (g.O.Objects.name_of c.args.objects.now) c.sound_if_told.ensures.namer (g.O.Objects.told c.args.objects.now) c.args.base.now c.sound_if_told.ensures.sound c.in_default.ensures (rw c.in_default-2.is at c.in_ok-name.ensures.object) c.if-is_abbreviation.ensures
