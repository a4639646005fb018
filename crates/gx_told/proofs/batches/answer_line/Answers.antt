use Rattle.std.proofs.Common.{subst, sym}
use Rattle.std.specs.Prelude.{IfSome}
use Rattle.gx_told.specs.Batching.{SendsAnswer, line_answer}
use Rattle.gx_told.proofs.batches.answer_line.Goals as goal

pub returns-in-Bytes : goal.returns-in-Bytes
returns-in-Bytes g c =
    let told = g.O.Objects.told c.args.objects.now in
    let name = g.O.Objects.name_of c.args.objects.now in
    let was = g.W.Sink.taken c.args.sink.now in
    let now = g.W.Sink.taken c.answer_revision.new.sink in
    subst (λ form. IfSome told (λ r. SendsAnswer (line_answer name form c.args.format.now.parts.items r c.args.line.now) was now c.answer_revision.result)) (sym c.in-Bytes.is) c.answer_revision.ensures

pub returns-in-Check : goal.returns-in-Check
returns-in-Check g c =
    let told = g.O.Objects.told c.args.objects.now in
    let name = g.O.Objects.name_of c.args.objects.now in
    let was = g.W.Sink.taken c.args.sink.now in
    let now = g.W.Sink.taken c.answer_revision-in-Check.new.sink in
    subst (λ form. IfSome told (λ r. SendsAnswer (line_answer name form c.args.format.now.parts.items r c.args.line.now) was now c.answer_revision-in-Check.result)) (sym c.in-Check.is) c.answer_revision-in-Check.ensures

pub returns-in-Commands : goal.returns-in-Commands
returns-in-Commands g c =
    let told = g.O.Objects.told c.args.objects.now in
    let name = g.O.Objects.name_of c.args.objects.now in
    let was = g.W.Sink.taken c.args.sink.now in
    let now = g.W.Sink.taken c.answer_command.new.sink in
    subst (λ form. IfSome told (λ r. SendsAnswer (line_answer name form c.args.format.now.parts.items r c.args.line.now) was now c.answer_command.result)) (sym c.in-Commands.is) c.answer_command.ensures
