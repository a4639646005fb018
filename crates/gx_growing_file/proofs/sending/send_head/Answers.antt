use Rattle.std.proofs.Common.{◌++◌, ◌∷◌, ◌∙◌, [], arith, codes, subst}
use Rattle.gx_file.specs.Sending.{Sent}
use Rattle.gx_growing_file.proofs.SentParts.{head_sent}
use Rattle.gx_growing_file.proofs.sending.send_head.Goals as goal

pub returns : goal.returns
returns g c =
    let was = g.W.Sink.taken c.args.sink.now in
    let now = g.W.Sink.taken c.send_all.new.sink in
    let ends = c.as_bytes-ends_text.result.now in
    let tail = c.as_bytes-tail_text.result.now in
    let digits = c.as_slice.result.now in
    head_sent was now c.send_all.result (record { ends = c.args.ends; tail = c.args.tail; digest = c.args.digest.now }) ends tail digits
    (omega (arith, c.ranges.ends.fits)) (omega (arith, c.ranges.tail.fits)) (c.as_bytes-ends_text.ensures.value ∙ c.format.ensures.text) (c.as_bytes-tail_text.ensures.value ∙ c.format-2.ensures.text) (c.as_slice.ensures ∙ c.digest_digits-digits.ensures)
    (subst (λ t. Sent t was now c.send_all.result)
    (λ i. (codes "gxstore 3" ++ (10 ∷ (codes "a" ++ 10 ∷ []))) ++ (c.zeros_before.ensures i ++ (ends ++ (32 ∷ (c.zeros_before-2.ensures i ++ (tail ++ (32 ∷ (digits
    ++ ((10 ∷ codes "00000000000000000000 00000000000000000000 ") ++ (codes "0000000000000000000000000000000000000000000000000000000000000000" ++ 10 ∷ [])))))))))) c.send_all.ensures)
