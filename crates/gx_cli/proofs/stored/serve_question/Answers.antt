use Rattle.gx_cli.proofs.ServedLines.{question_served}
use Rattle.gx_cli.proofs.stored.serve_question.Goals as goal

pub returns-in_default : goal.returns-in_default
returns-in_default g c =
    question_served (g.N.Namer.name_of c.args.namer) c.answer_stored.result (g.R.Source.coming c.args.source) (g.W.Sink.taken c.args.sink.now) (g.W.Sink.taken c.answer_stored.new.sink) c.args.question.now c.args.store.items c.in_default.not-Batch c.answer_stored.ensures
