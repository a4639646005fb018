use Rattle.std.proofs.Common.{subst}
use Rattle.std.specs.Option.{option_map}
use Rattle.std.proofs.lemmas.Result.{err_from_is_err_and}
use Rattle.gx_model.specs.Records.HistoryOf.{history_of}
use Rattle.gx_stream.specs.Heard.{heard}
use Rattle.gx_batch.specs.Answers.{batch_answer}
use Rattle.gx_batch.specs.Batches.{Answers}
use Rattle.gx_batch.specs.Formats.{default_parts}
use Rattle.gx_batch.specs.declared.ending.LineEnding.TheVariants.{Lf}
use Rattle.gx_batch.proofs.Answering.{not_begun, of_source}
use Rattle.gx_batch.proofs.batching.batch.Goals as goal

pub returns-in_err-format : goal.returns-in_err-format
returns-in_err-format g c =
    let p = err_from_is_err_and c.from_residual.result c.from_residual.ensures.1 in
    let answer = batch_answer (g.N.Namer.name_of c.args.repo.now.0) c.args.check default_parts (history_of c.args.repo.now.1) in
    let coming = g.R.Source.coming c.args.source in
    let was = g.W.Sink.taken c.args.sink.now in
    rw (p.1, p.2) (of_source answer Lf coming was was _ (not_begun answer Lf (option_map heard coming) was))

pub returns : goal.returns
returns g c =
    subst (λ parts. Answers (batch_answer (g.N.Namer.name_of c.args.repo.now.0) c.args.check parts (history_of c.args.repo.now.1)) Lf (g.R.Source.coming c.args.source) (g.W.Sink.taken c.args.sink.now) (g.W.Sink.taken c.answer_lines.new.sink) c.answer_lines.result) c.in_ok-format.ensures c.answer_lines.ensures
