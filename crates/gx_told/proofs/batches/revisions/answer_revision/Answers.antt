use Rattle.gx_rev.specs.Answers.{shown_by}
use Rattle.gx_told.proofs.AnsweredRevisions.{refused_answered, shown_answered}
use Rattle.gx_told.proofs.batches.revisions.answer_revision.Goals as goal

pub returns-in-Ok : goal.returns-in-Ok
returns-in-Ok g c =
    let told = g.O.Objects.told c.args.objects.now in
    let name = g.O.Objects.name_of c.args.objects.now in
    let was = g.W.Sink.taken c.args.sink.now in
    let now = g.W.Sink.taken c.answer_shown.new.sink in
    shown_answered name c.args.check c.args.format.now.parts.items c.args.asked.now told was now c.answer_shown.result (λ r. shown_by r c.in-Ok.shown) c.in-Ok.ensures.shown c.answer_shown.ensures

pub returns-in-Err : goal.returns-in-Err
returns-in-Err g c =
    let told = g.O.Objects.told c.args.objects.now in
    let name = g.O.Objects.name_of c.args.objects.now in
    let was = g.W.Sink.taken c.args.sink.now in
    let now = g.W.Sink.taken c.refuse_line.new.sink in
    refused_answered name c.args.check c.args.format.now.parts.items c.args.asked.now told was now c.refuse_line.result c.in-Err.fault c.in-Err.ensures.shown c.refuse_line.ensures
