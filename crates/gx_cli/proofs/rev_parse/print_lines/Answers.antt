use Rattle.std.proofs.Common.{◌∙◌, refl, Err, subst, drop, ◌+◌, Ok}
use Rattle.std.specs.List.{flat_map}
use Rattle.std.proofs.lemmas.Result.{err_from_is_err_and}
use Rattle.gx_print.specs.Stored.{shown_line}
use Rattle.gx_cli.specs.Sending.{PrintsText}
use Rattle.gx_cli.proofs.SentLines.{given_text}
use Rattle.gx_cli.proofs.Pieces.{piece_cut, left_from, piece_sent, sent_prints}
use Rattle.gx_cli.proofs.rev_parse.print_lines.Goals as goal

pub returns-in_err-put_text : goal.returns-in_err-put_text
returns-in_err-put_text g c =
    let p = err_from_is_err_and c.from_residual.result c.from_residual.ensures.1 in
    let all = c.args.all.now in
    let place = c.loop-shown.shown-index in
    let was = g.W.Sink.taken c.args.sink.now in
    let mid = g.W.Sink.taken c.loop-shown.sink in
    let now = g.W.Sink.taken c.put_text.new.sink in
    let whole = flat_map shown_line all in
    let piece = subst (λ text. PrintsText text mid now c.put_text.result) (c.as_slice.ensures ∙ c.shown_line.ensures) (sent_prints c.as_slice.result.now mid now c.put_text.result c.put_text.ensures) in
    let left = left_from shown_line whole was mid all place _ _ c.loop-shown-test.true refl c.loop-shown.invariant in
    rw (p.1, p.2) (given_text (Ok whole) whole was now (Err c.in_err-put_text.field-0.0) refl (piece_cut whole was mid now _ (flat_map shown_line (drop (place + 1) all)) c.put_text.result c.in_err-put_text.field-0.0 c.in_err-put_text.was left piece))

pub loop-shown-preserved : goal.loop-shown-preserved
loop-shown-preserved g c =
    let all = c.args.all.now in
    let place = c.loop-shown.shown-index in
    let was = g.W.Sink.taken c.args.sink.now in
    let mid = g.W.Sink.taken c.loop-shown.sink in
    let now = g.W.Sink.taken c.put_text.new.sink in
    let whole = flat_map shown_line all in
    let piece = subst (λ text. PrintsText text mid now c.put_text.result) (c.as_slice.ensures ∙ c.shown_line.ensures) (sent_prints c.as_slice.result.now mid now c.put_text.result c.put_text.ensures) in
    let left = left_from shown_line whole was mid all place _ _ c.loop-shown-test.true refl c.loop-shown.invariant in
    piece_sent whole was mid now _ (flat_map shown_line (drop (place + 1) all)) c.put_text.result c.in_ok-put_text.field-0 c.in_ok-put_text.was left piece
