use Rattle.gx_model.proofs.Texts.SentTexts.{failed_within}
use Rattle.gx_marks.proofs.writing.send_text.Goals as goal

pub returns-in-Err : goal.returns-in-Err
returns-in-Err g c = failed_within (g.W.Sink.taken c.args.sink.now) (g.W.Sink.taken c.send.new.sink) c.args.text.now c.in-Err.field-0 c.in-Err.ensures.bytes
