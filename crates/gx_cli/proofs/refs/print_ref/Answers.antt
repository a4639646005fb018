use Rattle.std.proofs.Common.{◌∙◌, ◌++◌, ◌∷◌, [], subst}
use Rattle.std.proofs.lemmas.Result.{err_from_is_err_and}
use Rattle.gx_model.specs.Objects.{hex}
use Rattle.gx_model.specs.Stores.StoreText.{stored_ref}
use Rattle.gx_cli.specs.Sending.{PrintsText}
use Rattle.gx_cli.proofs.SentLines.{last_sent}
use Rattle.gx_cli.proofs.Pieces.{piece_cut, piece_sent, left_ref, sent_prints}
use Rattle.gx_cli.proofs.refs.print_ref.Goals as goal

pub returns-in_err-put_text : goal.returns-in_err-put_text
returns-in_err-put_text g c =
    let p = err_from_is_err_and c.from_residual.result c.from_residual.ensures.1 in
    let name = c.args.name.now in
    let digits = hex c.args.object.now.bytes in
    let whole = stored_ref (name, c.args.object.now.bytes) in
    let was = g.W.Sink.taken c.args.sink.now in
    let first = g.W.Sink.taken c.put_text.new.sink in
    let piece = subst (λ text. PrintsText text was first c.put_text.result) (c.as_slice.ensures ∙ c.hex.ensures.digits) (sent_prints c.as_slice.result.now was first c.put_text.result c.put_text.ensures) in
    rw (p.1, p.2) (piece_cut whole was was first digits ((32 ∷ []) ++ (name ++ 10 ∷ [])) c.put_text.result c.in_err-put_text.field-0.0 c.in_err-put_text.was (left_ref name digits was) piece)

pub returns-in_err-put_text-2 : goal.returns-in_err-put_text-2
returns-in_err-put_text-2 g c =
    let p = err_from_is_err_and c.from_residual-in_err-put_text-2.result c.from_residual-in_err-put_text-2.ensures.1 in
    let name = c.args.name.now in
    let digits = hex c.args.object.now.bytes in
    let whole = stored_ref (name, c.args.object.now.bytes) in
    let was = g.W.Sink.taken c.args.sink.now in
    let first = g.W.Sink.taken c.put_text.new.sink in
    let second = g.W.Sink.taken c.put_text-2.new.sink in
    let piece = subst (λ text. PrintsText text was first c.put_text.result) (c.as_slice.ensures ∙ c.hex.ensures.digits) (sent_prints c.as_slice.result.now was first c.put_text.result c.put_text.ensures) in
    let behind = piece_sent whole was was first digits ((32 ∷ []) ++ (name ++ 10 ∷ [])) c.put_text.result c.in_ok-put_text.field-0 c.in_ok-put_text.was (left_ref name digits was) piece in
    rw (p.1, p.2) (piece_cut whole was first second (32 ∷ []) (name ++ 10 ∷ []) c.put_text-2.result c.in_err-put_text-2.field-0.0 c.in_err-put_text-2.was behind (sent_prints (32 ∷ []) first second c.put_text-2.result c.put_text-2.ensures))

pub returns-in_err-put_text-3 : goal.returns-in_err-put_text-3
returns-in_err-put_text-3 g c =
    let p = err_from_is_err_and c.from_residual-in_err-put_text-3.result c.from_residual-in_err-put_text-3.ensures.1 in
    let name = c.args.name.now in
    let digits = hex c.args.object.now.bytes in
    let whole = stored_ref (name, c.args.object.now.bytes) in
    let was = g.W.Sink.taken c.args.sink.now in
    let first = g.W.Sink.taken c.put_text.new.sink in
    let second = g.W.Sink.taken c.put_text-2.new.sink in
    let third = g.W.Sink.taken c.put_text-3.new.sink in
    let piece = subst (λ text. PrintsText text was first c.put_text.result) (c.as_slice.ensures ∙ c.hex.ensures.digits) (sent_prints c.as_slice.result.now was first c.put_text.result c.put_text.ensures) in
    let behind = piece_sent whole was was first digits ((32 ∷ []) ++ (name ++ 10 ∷ [])) c.put_text.result c.in_ok-put_text.field-0 c.in_ok-put_text.was (left_ref name digits was) piece in
    let spaced = piece_sent whole was first second (32 ∷ []) (name ++ 10 ∷ []) c.put_text-2.result c.in_ok-put_text-2.field-0 c.in_ok-put_text-2.was behind (sent_prints (32 ∷ []) first second c.put_text-2.result c.put_text-2.ensures) in
    rw (p.1, p.2) (piece_cut whole was second third name (10 ∷ []) c.put_text-3.result c.in_err-put_text-3.field-0.0 c.in_err-put_text-3.was spaced (sent_prints name second third c.put_text-3.result c.put_text-3.ensures))

pub returns : goal.returns
returns g c =
    let name = c.args.name.now in
    let digits = hex c.args.object.now.bytes in
    let whole = stored_ref (name, c.args.object.now.bytes) in
    let was = g.W.Sink.taken c.args.sink.now in
    let first = g.W.Sink.taken c.put_text.new.sink in
    let second = g.W.Sink.taken c.put_text-2.new.sink in
    let third = g.W.Sink.taken c.put_text-3.new.sink in
    let now = g.W.Sink.taken c.put_text-4.new.sink in
    let piece = subst (λ text. PrintsText text was first c.put_text.result) (c.as_slice.ensures ∙ c.hex.ensures.digits) (sent_prints c.as_slice.result.now was first c.put_text.result c.put_text.ensures) in
    let behind = piece_sent whole was was first digits ((32 ∷ []) ++ (name ++ 10 ∷ [])) c.put_text.result c.in_ok-put_text.field-0 c.in_ok-put_text.was (left_ref name digits was) piece in
    let spaced = piece_sent whole was first second (32 ∷ []) (name ++ 10 ∷ []) c.put_text-2.result c.in_ok-put_text-2.field-0 c.in_ok-put_text-2.was behind (sent_prints (32 ∷ []) first second c.put_text-2.result c.put_text-2.ensures) in
    let named = piece_sent whole was second third name (10 ∷ []) c.put_text-3.result c.in_ok-put_text-3.field-0 c.in_ok-put_text-3.was spaced (sent_prints name second third c.put_text-3.result c.put_text-3.ensures) in
    last_sent was third now whole (10 ∷ []) c.put_text-4.result named (sent_prints (10 ∷ []) third now c.put_text-4.result c.put_text-4.ensures)
