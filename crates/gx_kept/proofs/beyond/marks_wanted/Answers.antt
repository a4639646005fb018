use Rattle.std.proofs.Common.{sym, subst}
use Rattle.gx_objects.specs.Answers.{Tells}
use Rattle.gx_object.specs.Parts.{bytes_if}
use Rattle.gx_kept.proofs.MarkedBeyond.{MarksWanted, head_wanted, none_wanted}
use Rattle.gx_kept.proofs.beyond.marks_wanted.Goals as goal

pub returns-in_default-clause-marks : goal.returns-in_default-clause-marks
returns-in_default-clause-marks g c =
    let told = g.O.Objects.told c.args.objects.now in
    subst (λ head. Tells told (MarksWanted c.args.refs.now (bytes_if head)) c.marks_reached.result) (sym c.in_default.is)
    (none_wanted told c.args.refs.now c.marks_reached.result c.marks_reached.ensures.marks)

pub returns-clause-marks : goal.returns-clause-marks
returns-clause-marks g c =
    let told = g.O.Objects.told c.args.objects.now in
    let result = c.marks_reached-2.result in
    subst (λ head. Tells told (MarksWanted c.args.refs.now (bytes_if head)) result) (sym c.in-Some.is)
    (head_wanted told c.args.refs.now c.in-Some.called.bytes result c.marks_reached-2.ensures.marks)
