use Rattle.std.proofs.Common.{refl}
use Rattle.gx_model.proofs.Texts.SentTexts.{failed_within}
use Rattle.gx_import.proofs.replay.write.Goals as goal

pub returns-in-Err : goal.returns-in-Err
returns-in-Err g c = (refl, failed_within (g.W.Sink.taken c.args.sink.now) (g.W.Sink.taken c.send.new.sink) c.args.bytes.now _ c.in-Err.ensures.bytes)
