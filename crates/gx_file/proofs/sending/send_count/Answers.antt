use Rattle.std.proofs.Common.{◌∙◌, arith}
use Rattle.gx_file.proofs.SentTexts.{count_sent}
use Rattle.gx_file.proofs.sending.send_count.Goals as goal

pub returns : goal.returns
returns g c =
    count_sent (g.W.Sink.taken c.args.sink.now) (g.W.Sink.taken c.send_all.new.sink) c.send_all.result c.args.word.now c.as_bytes.result.now c.args.count
    (omega (arith, c.well_formed)) (c.as_bytes.ensures.value ∙ c.format.ensures.text) c.send_all.ensures
