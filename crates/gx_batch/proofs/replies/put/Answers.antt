use Rattle.gx_model.proofs.Texts.SentTexts.{failed_within}
use Rattle.gx_batch.proofs.replies.put.Goals as goal

pub returns-in-Err-clause-sent : goal.returns-in-Err-clause-sent
returns-in-Err-clause-sent g c = failed_within (g.W.Sink.taken c.args.sink.now) (g.W.Sink.taken c.send.new.sink) c.args.text.now c.in-Err.field-0 c.in-Err.ensures.bytes
