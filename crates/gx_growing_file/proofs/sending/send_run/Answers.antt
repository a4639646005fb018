use Rattle.std.proofs.Common.{◌∙◌, arith}
use Rattle.gx_growing_file.proofs.SentParts.{run_sent}
use Rattle.gx_growing_file.proofs.sending.send_run.Goals as goal

pub returns : goal.returns
returns g c =
    run_sent (g.W.Sink.taken c.args.sink.now) (g.W.Sink.taken c.send_all.new.sink) c.send_all.result (record { place = c.args.place; count = c.args.count; digest = c.args.digest.now })
    c.as_bytes.result.now c.as_bytes-2.result.now c.as_slice.result.now (omega (arith, c.ranges.place.fits)) (omega (arith, c.ranges.count.fits)) (c.as_bytes.ensures.value ∙ c.format.ensures.text)
    (c.as_bytes-2.ensures.value ∙ c.format-2.ensures.text) (c.as_slice.ensures ∙ c.digest_digits-digits.ensures) c.send_all.ensures
