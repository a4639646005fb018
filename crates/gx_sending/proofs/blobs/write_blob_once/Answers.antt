use Rattle.std.proofs.Common.{◌∙◌, sym}
use Rattle.std.proofs.lemmas.Result.{err_from_is_err_and}
use Rattle.gx_model.specs.declared.objects.Kind.TheVariants as kinds
use Rattle.gx_questions.proofs.Found.{not_other}
use Rattle.gx_sending.proofs.SentBlobs.{one_fails, one_marked, one_stays, untold}
use Rattle.gx_sending.proofs.blobs.write_blob_once.Goals as goal

pub returns-then-is_some-clause-adds : goal.returns-then-is_some-clause-adds
returns-then-is_some-clause-adds g c =
    let o = c.args.objects.now in
    one_stays (g.O.Objects.name_of o) c.sound_if_told.ensures.namer c.args.name.now c.args.written.now (g.O.Objects.told o) c.mark_of.result c.sound_if_told.ensures.sound c.requires.held c.mark_of.ensures (sym c.is_some.ensures ∙ c.if-is_some.true)

pub returns-in_default : goal.returns-in_default
returns-in_default g c =
    let o = c.args.objects.now in
    let none = not_other (g.O.Objects.name_of o) c.sound_if_told.ensures.namer (g.O.Objects.told o) kinds.Blob c.args.name.now c.in_ok-object.object c.sound_if_told.ensures.sound c.requires.held c.in_ok-object.ensures.object c.in_default.not-Blob in
    record { adds = untold (g.O.Objects.told o) _ none; fault = none }

pub returns-in_err-write_blob-clause-adds : goal.returns-in_err-write_blob-clause-adds
returns-in_err-write_blob-clause-adds g c =
    let o = c.args.objects.now in
    let p = err_from_is_err_and c.from_residual-in_err-write_blob.result c.from_residual-in_err-write_blob.ensures.1 in
    rw (p.1, p.2) (one_fails (g.O.Objects.name_of o) c.sound_if_told.ensures.namer c.args.name.now c.args.written.now c.in_ok-object.object c.next_mark-mark.result c.next_mark-mark.ensures c.mark_of.result c.mark_of.ensures (sym c.is_some.ensures ∙ c.if-is_some.false) c.write_blob.new.output
    (g.O.Objects.told o) c.in_err-write_blob.field-0.0 c.sound_if_told.ensures.sound c.requires.held c.in_ok-object.ensures.object c.in_err-write_blob.ensures.text)

pub returns-clause-adds : goal.returns-clause-adds
returns-clause-adds g c =
    let o = c.args.objects.now in
    one_marked (g.O.Objects.name_of o) c.sound_if_told.ensures.namer c.args.name.now c.args.written.now c.in_ok-object.object c.next_mark-mark.result c.next_mark-mark.ensures c.mark_of.result c.mark_of.ensures (sym c.is_some.ensures ∙ c.if-is_some.false) c.write_blob.new.output
    (g.O.Objects.told o) c.mark.new.self c.mark.result c.sound_if_told.ensures.sound c.requires.held c.in_ok-object.ensures.object c.in_ok-write_blob.ensures.text c.mark.ensures.value c.mark.ensures.output c.mark.ensures.fault
