use Rattle.std.proofs.Common.{Err, refl, subst, sym, Ok, ◌∙◌}
use Rattle.std.specs.List.{flat_map}
use Rattle.std.proofs.lemmas.Result.{err_from_is_err_and}
use Rattle.gx_model.specs.Stores.StoreText.{stored_ref}
use Rattle.gx_print.specs.Stored.{refs_text}
use Rattle.gx_model.proofs.Texts.SentTexts.{IsLeft, all_left}
use Rattle.gx_cli.proofs.SentLines.{given_text}
use Rattle.gx_cli.proofs.Pieces.{piece_cut, piece_sent}
use Rattle.gx_cli.proofs.refs.print_refs.Goals as goal

pub loop-name-init : goal.loop-name-init
loop-name-init g c =
    let all = c.into_iter-name-iterator.ensures.into_iter_gives ∙ c.refs-name-items.ensures.held in
    let whole = refs_text c.args.repo.now.1 in
    let was = g.W.Sink.taken c.args.sink.now in
    (tt, tt, subst (λ refs. IsLeft whole was was (flat_map stored_ref refs)) (sym all) (all_left whole was))

pub loop-name-preserved : goal.loop-name-preserved
loop-name-preserved g c =
    let whole = refs_text c.args.repo.now.1 in
    let was = g.W.Sink.taken c.args.sink.now in
    let mid = g.W.Sink.taken c.loop-name.sink in
    let now = g.W.Sink.taken c.print_ref.new.sink in
    let left = subst (λ refs. IsLeft whole was mid (flat_map stored_ref refs)) c.in-Some.ensures.steps c.loop-name.invariant.2 in
    (tt, tt, piece_sent whole was mid now (stored_ref (c.in-Some.name.now, c.in-Some.object.bytes)) (flat_map stored_ref c.next.new.self) c.print_ref.result c.in_ok-print_ref.field-0 c.in_ok-print_ref.was left c.print_ref.ensures)

pub returns-in_err-print_ref : goal.returns-in_err-print_ref
returns-in_err-print_ref g c =
    let p = err_from_is_err_and c.from_residual.result c.from_residual.ensures.1 in
    let whole = refs_text c.args.repo.now.1 in
    let was = g.W.Sink.taken c.args.sink.now in
    let mid = g.W.Sink.taken c.loop-name.sink in
    let now = g.W.Sink.taken c.print_ref.new.sink in
    let left = subst (λ refs. IsLeft whole was mid (flat_map stored_ref refs)) c.in-Some.ensures.steps c.loop-name.invariant.2 in
    rw (p.1, p.2) (given_text (Ok whole) whole was now (Err c.in_err-print_ref.field-0.0) refl (piece_cut whole was mid now (stored_ref (c.in-Some.name.now, c.in-Some.object.bytes)) (flat_map stored_ref c.next.new.self) c.print_ref.result c.in_err-print_ref.field-0.0 c.in_err-print_ref.was left c.print_ref.ensures))
