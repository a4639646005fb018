use Rattle.std.proofs.Common.{◌∙◌}
use Rattle.gx_marks.proofs.SentMarks.{mark_sent}
use Rattle.gx_marks.proofs.writing.write_mark.Goals as goal

pub returns : goal.returns
returns g c =
    mark_sent (g.W.Sink.taken c.args.sink.now) (g.W.Sink.taken c.send_all.new.sink) c.send_all.result c.as_slice.result.now c.as_bytes.result.now c.as_slice-2.result.now c.args.mark.number c.args.mark.name.bytes
    c.as_slice.ensures (c.as_bytes.ensures.value ∙ c.format.ensures.text) (c.as_slice-2.ensures ∙ c.hex-digits.ensures.digits) c.send_all.ensures
