use Rattle.std.proofs.Common.{◌∙◌, arith}
use Rattle.gx_file.proofs.SentTexts.{body_sent}
use Rattle.gx_file.proofs.sending.send_body.Goals as goal

pub returns-clause-text : goal.returns-clause-text
returns-clause-text g c =
    body_sent (g.W.Sink.taken c.args.sink.now) (g.W.Sink.taken c.send_all.new.sink) c.send_all.result c.args.word.now c.as_bytes.result.now c.as_slice.result.now c.args.name.now.bytes c.args.body.now
    (omega (arith, c.shared_slice_known-1.given, c.shared_slice_known-2-1.given)) (c.as_bytes.ensures.value ∙ c.format.ensures.text) (c.as_slice.ensures ∙ c.hex-digits.ensures.digits) c.send_all.ensures
