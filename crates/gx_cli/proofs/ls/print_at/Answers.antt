use Rattle.std.proofs.Common.{◌≡◌, ◌∙◌, ◌++◌, ap, subst}
use Rattle.gx_print.specs.Listings.{entry_line}
use Rattle.gx_cli.specs.Sending.{PrintsText}
use Rattle.gx_cli.proofs.Pieces.{sent_prints}
use Rattle.gx_cli.proofs.ls.print_at.Goals as goal

pub returns : goal.returns
returns g c =
    let was = g.W.Sink.taken c.args.sink.now in
    let now = g.W.Sink.taken c.put_text.new.sink in
    let line = entry_line (record { mode = c.args.mode; component = c.args.path.now; name = c.args.name.now.bytes }) in
    let made : c.as_slice.result.now ≡ line = c.as_slice.ensures.value ∙ c.in_ok-put_line.ensures ∙ ap (λ front. front ++ line) c.clear.ensures.items in
    subst (λ text. PrintsText text was now c.put_text.result) made (sent_prints c.as_slice.result.now was now c.put_text.result c.put_text.ensures)
