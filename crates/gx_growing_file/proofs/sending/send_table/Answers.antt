use Rattle.std.proofs.Common.{◌++◌, ◌∷◌, ◌∙◌, [], arith, codes, subst}
use Rattle.gx_file.specs.Sending.{Sent}
use Rattle.gx_growing_file.proofs.SentParts.{table_sent}
use Rattle.gx_growing_file.proofs.sending.send_table.Goals as goal

pub returns : goal.returns
returns g c =
    let was = g.W.Sink.taken c.args.sink.now in
    let now = g.W.Sink.taken c.send_all.new.sink in
    let rows = c.as_slice.ensures.value in
    let digests = c.as_slice-2.ensures.value in
    let digits = c.as_bytes.result.now in
    table_sent was now c.send_all.result c.args.count digits c.args.table.now.rows.items c.args.table.now.digests.items c.args.tail.now (omega (arith, c.ranges.count.fits)) (c.as_bytes.ensures.value ∙ c.format.ensures.text)
    (subst (λ t. Sent t was now c.send_all.result) (λ i. codes "rows" ++ (32 ∷ (digits ++ (10 ∷ (rows i ++ (digests i ++ (10 ∷ (c.args.tail.now ++ [])))))))) c.send_all.ensures)
