use Rattle.std.proofs.Common.{subst, sym}
use Rattle.gx_cli.specs.Serving.{AnswersBatch}
use Rattle.gx_cli.proofs.batch.batch_opened.Goals as goal

pub returns-in-Bytes : goal.returns-in-Bytes
returns-in-Bytes g c =
    let r = c.args.repo.now in
    subst (λ form. AnswersBatch (g.N.Namer.name_of r.0) form c.args.format.now.parts.items c.args.ending r.1 (g.R.Source.coming c.args.source) (g.W.Sink.taken c.args.sink.now) (g.W.Sink.taken c.answer_all.new.sink) c.answer_all.result) (sym c.in-Bytes.is) c.answer_all.ensures

pub returns-in-Check : goal.returns-in-Check
returns-in-Check g c =
    let r = c.args.repo.now in
    subst (λ form. AnswersBatch (g.N.Namer.name_of r.0) form c.args.format.now.parts.items c.args.ending r.1 (g.R.Source.coming c.args.source) (g.W.Sink.taken c.args.sink.now) (g.W.Sink.taken c.answer_all-in-Check.new.sink) c.answer_all-in-Check.result) (sym c.in-Check.is) c.answer_all-in-Check.ensures

pub returns-in-Commands : goal.returns-in-Commands
returns-in-Commands g c =
    let r = c.args.repo.now in
    subst (λ form. AnswersBatch (g.N.Namer.name_of r.0) form c.args.format.now.parts.items c.args.ending r.1 (g.R.Source.coming c.args.source) (g.W.Sink.taken c.args.sink.now) (g.W.Sink.taken c.answer_all-in-Commands.new.sink) c.answer_all-in-Commands.result) (sym c.in-Commands.is) c.answer_all-in-Commands.ensures
