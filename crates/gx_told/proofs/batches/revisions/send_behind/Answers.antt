use Rattle.gx_told.proofs.AnsweredLines.{sent_answers}
use Rattle.gx_told.proofs.batches.revisions.send_behind.Goals as goal

pub returns-in-Err : goal.returns-in-Err
returns-in-Err g c = rw c.from.ensures (sent_answers _ (g.W.Sink.taken c.args.sink.now) (g.W.Sink.taken c.put_behind.new.sink) c.in-Err.fault c.in-Err.ensures.sent)
