use Rattle.std.proofs.Common.{◌∙◌, sym, subst}
use Rattle.gx_file.specs.Sending.{Sent}
use Rattle.gx_object.specs.Parts.{bytes_if}
use Rattle.gx_kept.proofs.SentHeads.{refs_sent, refs_text}
use Rattle.gx_kept.proofs.bundling.send_refs.Goals as goal

pub returns-in_default-clause-text : goal.returns-in_default-clause-text
returns-in_default-clause-text g c =
    subst (λ head. Sent (refs_text (bytes_if head) c.args.lines.now) (g.W.Sink.taken c.args.sink.now) (g.W.Sink.taken c.send_all.new.sink) c.send_all.result)
    (sym c.in_default.is) c.send_all.ensures

pub returns-clause-text : goal.returns-clause-text
returns-clause-text g c =
    let was = g.W.Sink.taken c.args.sink.now in
    let now = g.W.Sink.taken c.send_all-2.new.sink in
    subst (λ head. Sent (refs_text (bytes_if head) c.args.lines.now) was now c.send_all-2.result) (sym c.in-Some.is)
    (refs_sent was now c.send_all-2.result c.as_slice.result.now c.in-Some.head.bytes c.args.lines.now (c.as_slice.ensures ∙ c.hex-digits.ensures.digits) c.send_all-2.ensures)
