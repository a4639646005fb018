use Rattle.std.proofs.Common.{◌≡◌, ◌<◌, ◌^◌, ◌∙◌, Bool, Err, List, length, subst, sym}
use Rattle.std.specs.Prelude.{IfSome}
use Rattle.std.proofs.lemmas.Result.{err_from_is_err_and}
use Rattle.sha2.specs.Sha256.{sha256}
use Rattle.gx_growing.specs.GrowingText.{growing_text}
use Rattle.gx_growing_parts.proofs.Digesters.{digester}
use Rattle.gx_model.specs.Texts.Sinks.{Took}
use Rattle.gx_object.specs.Commits.{bytes_of_names}
use Rattle.gx_repo.specs.Pruning.{is_kept_beside, marks_by, pruned_beside}
use Rattle.gx_repo.specs.declared.pruning.Pruned.{Pruned}
use Rattle.gx_kept.specs.Collecting.{Collects}
use Rattle.gx_kept.specs.Faults.{of_look}
use Rattle.gx_kept.specs.Sending.{left_of}
use Rattle.gx_kept.proofs.CollectedTexts.{collected, stopped}
use Rattle.gx_kept.proofs.Stopping.{look_stops, look_told, of_told, same_fault}
use Rattle.gx_kept.proofs.collecting.collect.Goals as goal

pub returns-in_err-marks-clause-left : goal.returns-in_err-marks-clause-left
returns-in_err-marks-clause-left g c =
    let p = err_from_is_err_and c.from_residual.result c.from_residual.ensures.1 in
    let was = g.W.Sink.taken c.args.sink.now in
    let names = bytes_of_names c.args.kept.now in
    let fault = c.in_err-marks.field-0.0 in
    rw (p.1, p.2) (of_told (g.O.Objects.told c.args.objects.now) (λ r. Collects (g.O.Objects.name_of c.args.objects.now) names r was was (Err (of_look fault)))
    (λ r. record { left = record { text = look_stops was fault (growing_text sha256 (pruned_beside names r)); read = tt }; objects = tt; bytes = tt }))

pub returns-in_err-marks-clause-fault : goal.returns-in_err-marks-clause-fault
returns-in_err-marks-clause-fault g c =
    let p = err_from_is_err_and c.from_residual.result c.from_residual.ensures.1 in
    rw (p.1, p.2) (look_told Pruned (g.O.Objects.told c.args.objects.now) c.in_err-marks.field-0.0 c.in_err-marks.ensures.fault)

pub returns-in_err-send_marked-clause-left : goal.returns-in_err-send_marked-clause-left
returns-in_err-send_marked-clause-left g c =
    let p = err_from_is_err_and c.from_residual-in_err-send_marked.result c.from_residual-in_err-send_marked.ensures.1 in
    let told = g.O.Objects.told c.args.objects.now in
    let names = bytes_of_names c.args.kept.now in
    let are = subst (λ (marks : List Bool). IfSome told (λ r. marks ≡ marks_by (is_kept_beside names r) r.records)) (sym c.as_slice.ensures.value) c.in_ok-marks.ensures.marks in
    rw (p.1, p.2) (stopped (g.O.Objects.name_of c.args.objects.now) c.sound_if_told.ensures.namer ((c.growing_is_read.ensures (g.O.Objects.name_of c.args.objects.now) c.sound_if_told.ensures.namer).written sha256 digester)
    (g.O.Objects.stands c.args.objects.now) (g.O.Objects.told c.args.objects.now) c.args.listing.now c.sound_if_told.ensures.sound c.requires.listed
    c.as_slice.result.now (g.W.Sink.taken c.args.sink.now) (g.W.Sink.taken c.send_marked.new.sink) names are c.in_err-send_marked.field-0.0 c.in_err-send_marked.ensures.text)

pub returns-in_err-send_marked-clause-fault : goal.returns-in_err-send_marked-clause-fault
returns-in_err-send_marked-clause-fault g c =
    let p = err_from_is_err_and c.from_residual-in_err-send_marked.result c.from_residual-in_err-send_marked.ensures.1 in
    rw (p.1, p.2) (same_fault (Unit {0}) Pruned (g.O.Objects.told c.args.objects.now) c.in_err-send_marked.field-0.0 c.in_err-send_marked.ensures.fault)

pub returns-clause-left : goal.returns-clause-left
returns-clause-left g c =
    let told = g.O.Objects.told c.args.objects.now in
    let names = bytes_of_names c.args.kept.now in
    let same = c.as_slice-2.ensures.value ∙ sym c.as_slice.ensures.value in
    let are = subst (λ (marks : List Bool). IfSome told (λ r. marks ≡ marks_by (is_kept_beside names r) r.records)) (sym c.as_slice-2.ensures.value) c.in_ok-marks.ensures.marks in
    let went = subst (λ (marks : List Bool). IfSome told (λ r. Took (g.W.Sink.taken c.args.sink.now) (g.W.Sink.taken c.send_marked.new.sink) (growing_text sha256 (left_of marks r)))) (sym same) c.in_ok-send_marked.ensures.text in
    let short = subst (λ (marks : List Bool). IfSome told (λ r. length (growing_text sha256 (left_of marks r)) < 2 ^ 63)) (sym same) c.in_ok-send_marked.ensures.short in
    collected (g.O.Objects.name_of c.args.objects.now) c.sound_if_told.ensures.namer ((c.growing_is_read.ensures (g.O.Objects.name_of c.args.objects.now) c.sound_if_told.ensures.namer).written sha256 digester)
    (g.O.Objects.stands c.args.objects.now) (g.O.Objects.told c.args.objects.now) c.args.listing.now c.sound_if_told.ensures.sound c.requires.listed
    c.as_slice-2.result.now (g.W.Sink.taken c.args.sink.now) (g.W.Sink.taken c.send_marked.new.sink) names are c.gone.result went short c.gone.ensures.objects c.gone.ensures.bytes
