use Rattle.std.proofs.Common.{◌∙◌, Err, ap, replicate, true}
use Rattle.std.proofs.lemmas.Result.{err_from_is_err_and}
use Rattle.sha2.specs.Sha256.{sha256}
use Rattle.gx_growing.specs.GrowingText.{growing_text}
use Rattle.gx_growing_parts.proofs.Digesters.{digester}
use Rattle.gx_kept.specs.Collecting.{Rewrites}
use Rattle.gx_kept.specs.declared.fault.KeptFault.TheVariants.{OutOfMemory}
use Rattle.gx_kept.proofs.CollectedTexts.{rewriting}
use Rattle.gx_kept.proofs.Stopping.{none_went, of_told}
use Rattle.gx_kept.proofs.collecting.rewrite.Goals as goal

pub returns-in_err-marks-clause-text : goal.returns-in_err-marks-clause-text
returns-in_err-marks-clause-text g c =
    let p = err_from_is_err_and c.from_residual.result c.from_residual.ensures.1 in
    let was = g.W.Sink.taken c.args.sink.now in
    rw (p.1, p.2) (of_told (g.O.Objects.told c.args.objects.now) (λ r. Rewrites {X = Unit {0}} (g.O.Objects.name_of c.args.objects.now) r was was (Err OutOfMemory))
    (λ r. record { text = none_went was (growing_text sha256 r); read = tt }))

pub returns-clause-text : goal.returns-clause-text
returns-clause-text g c =
    let all = c.as_slice.ensures.value ∙ c.in_ok-marks.ensures.items_if_clones_equal (λ y e. e) ∙ ap (λ n. replicate n true) c.len-count.ensures in
    rewriting (g.O.Objects.name_of c.args.objects.now) c.sound_if_told.ensures.namer ((c.growing_is_read.ensures (g.O.Objects.name_of c.args.objects.now) c.sound_if_told.ensures.namer).written sha256 digester)
    (g.O.Objects.stands c.args.objects.now) (g.O.Objects.told c.args.objects.now) c.args.listing.now c.sound_if_told.ensures.sound c.requires.listed
    c.as_slice.result.now (g.W.Sink.taken c.args.sink.now) (g.W.Sink.taken c.send_marked.new.sink) all c.send_marked.result c.send_marked.ensures.text c.send_marked.ensures.short
