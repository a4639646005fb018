use Rattle.std.proofs.Common.{◌≡◌, subst}
use Rattle.gx_model.specs.Records.{body_of}
use Rattle.gx_batch.specs.Answers.{object_text}
use Rattle.gx_rev.specs.Answers.{IsNamed}
use Rattle.gx_rev.specs.Objects.{value_at}
use Rattle.gx_rev.specs.declared.shown.Shown.TheVariants.{Object}
use Rattle.gx_told.specs.Batching.{SendsAnswer}
use Rattle.gx_told.proofs.AnsweredRevisions.{held_unsent, object_sent}
use Rattle.gx_told.proofs.Tellings.{both_told}
use Rattle.gx_told.proofs.batches.revisions.answer_object.Goals as goal

pub returns-in-Ok : goal.returns-in-Ok
returns-in-Ok g c =
    let told = g.O.Objects.told c.args.objects.now in
    let name = g.O.Objects.name_of c.args.objects.now in
    let parts = c.args.format.now.parts.items in
    let called = c.args.name.now in
    let was = g.W.Sink.taken c.args.sink.now in
    let now = g.W.Sink.taken c.send_object.new.sink in
    let answer = c.send_object.result in
    both_told told (λ r. IsNamed name r (Object c.args.kind called)) (λ r. c.in-Ok.body.now ≡ body_of name (value_at r called)) (λ r. SendsAnswer (object_text name c.args.check parts (value_at r called)) was now answer)
    (λ r named found. subst (λ text. SendsAnswer text was now answer) (object_sent name c.args.check parts r c.args.kind called c.in-Ok.body.now named found) c.send_object.ensures) c.requires c.in-Ok.ensures.body

pub returns-in-Err : goal.returns-in-Err
returns-in-Err g c =
    let told = g.O.Objects.told c.args.objects.now in
    let name = g.O.Objects.name_of c.args.objects.now in
    rw c.refused.ensures (held_unsent told (λ r. object_text name c.args.check c.args.format.now.parts.items (value_at r c.args.name.now)) (g.W.Sink.taken c.args.sink.now) c.in-Err.fault c.in-Err.ensures.fault)
