use Rattle.std.proofs.Common.{◌++◌, ◌∙◌, ap, arith, codes, length, sym, subst}
use Rattle.std.specs.List.{flat_map}
use Rattle.gx_model.specs.Texts.Numbers.{number_text}
use Rattle.std.proofs.lemmas.Iterator.Consumers.{YieldsList-from_rest, count_from_yields_List}
use Rattle.std.proofs.lemmas.Result.{err_from_is_err_and}
use Rattle.gx_model.specs.Objects.{line}
use Rattle.gx_model.specs.Stores.StoreText.{stored_ref}
use Rattle.gx_repo.specs.Refs.{shown_lent_ref}
use Rattle.gx_model.specs.Texts.Sinks.{FailedWithin, Took}
use Rattle.gx_model.proofs.Texts.SentTexts.{IsLeft, all_left, left_fails, less_left, none_left}
use Rattle.gx_file.proofs.sending.send_refs.Goals as goal

pub returns-in_err-send_count-clause-text : goal.returns-in_err-send_count-clause-text
returns-in_err-send_count-clause-text g c =
    let p = err_from_is_err_and c.from_residual.result c.from_residual.ensures.1 in
    let refs = c.args.repo.now.1.refs in
    let counted = line (codes "refs") (number_text (length refs)) in
    let was = g.W.Sink.taken c.args.sink.now in
    let now = g.W.Sink.taken c.send_count.new.sink in
    let number = count_from_yields_List c.refs.result c.count.result c.count.ensures.ran (YieldsList-from_rest {shows = shown_lent_ref} refs c.refs.ensures.held) in
    let failed = subst (λ n. FailedWithin was now (line (codes "refs") (number_text n))) number c.in_err-send_count.ensures in
    rw p.1 (left_fails (counted ++ flat_map stored_ref refs) was was now counted (flat_map stored_ref refs) (all_left (counted ++ flat_map stored_ref refs) was) failed)

pub loop-name-init : goal.loop-name-init
loop-name-init g c =
    let refs = c.args.repo.now.1.refs in
    let counted = line (codes "refs") (number_text (length refs)) in
    let whole = counted ++ flat_map stored_ref refs in
    let was = g.W.Sink.taken c.args.sink.now in
    let now = g.W.Sink.taken c.send_count.new.sink in
    let number = count_from_yields_List c.refs.result c.count.result c.count.ensures.ran (YieldsList-from_rest {shows = shown_lent_ref} refs c.refs.ensures.held) in
    let took = subst (λ n. Took was now (line (codes "refs") (number_text n))) number c.in_ok-send_count.ensures in
    let all = c.into_iter-name-iterator.ensures.into_iter_gives ∙ c.refs-name-items.ensures.held in
    (tt, tt, subst (λ refs. IsLeft whole was now (flat_map stored_ref refs)) (sym all) (less_left whole was was now counted (flat_map stored_ref refs) (all_left whole was) took))

pub loop-name-preserved : goal.loop-name-preserved
loop-name-preserved g c =
    let refs = c.args.repo.now.1.refs in
    let whole = line (codes "refs") (number_text (length refs)) ++ flat_map stored_ref refs in
    let was = g.W.Sink.taken c.args.sink.now in
    let mid = g.W.Sink.taken c.loop-name.sink in
    let left = subst (λ refs. IsLeft whole was mid (flat_map stored_ref refs)) c.in-Some.ensures.steps c.loop-name.invariant.2 in
    (tt, tt, less_left whole was mid (g.W.Sink.taken c.send_ref.new.sink) (stored_ref (c.in-Some.name.now, c.in-Some.object.bytes)) (flat_map stored_ref c.next.new.self) left c.in_ok-send_ref.ensures)

pub returns-in_err-send_ref-clause-text : goal.returns-in_err-send_ref-clause-text
returns-in_err-send_ref-clause-text g c =
    let p = err_from_is_err_and c.from_residual-in_err-send_ref.result c.from_residual-in_err-send_ref.ensures.1 in
    let refs = c.args.repo.now.1.refs in
    let whole = line (codes "refs") (number_text (length refs)) ++ flat_map stored_ref refs in
    let was = g.W.Sink.taken c.args.sink.now in
    let mid = g.W.Sink.taken c.loop-name.sink in
    let left = subst (λ refs. IsLeft whole was mid (flat_map stored_ref refs)) c.in-Some.ensures.steps c.loop-name.invariant.2 in
    rw p.1 (left_fails whole was mid (g.W.Sink.taken c.send_ref.new.sink) (stored_ref (c.in-Some.name.now, c.in-Some.object.bytes)) (flat_map stored_ref c.next.new.self) left c.in_err-send_ref.ensures)

pub returns-in_err-send_count-clause-count : goal.returns-in_err-send_count-clause-count
returns-in_err-send_count-clause-count g c =
    let number = count_from_yields_List c.refs.result c.count.result c.count.ensures.ran (YieldsList-from_rest {shows = shown_lent_ref} c.args.repo.now.1.refs c.refs.ensures.held) in
    omega (arith, sym number)

pub returns-in_err-send_ref-clause-count : goal.returns-in_err-send_ref-clause-count
returns-in_err-send_ref-clause-count g c =
    let number = count_from_yields_List c.refs.result c.count.result c.count.ensures.ran (YieldsList-from_rest {shows = shown_lent_ref} c.args.repo.now.1.refs c.refs.ensures.held) in
    omega (arith, sym number)

pub returns-clause-count : goal.returns-clause-count
returns-clause-count g c =
    let number = count_from_yields_List c.refs.result c.count.result c.count.ensures.ran (YieldsList-from_rest {shows = shown_lent_ref} c.args.repo.now.1.refs c.refs.ensures.held) in
    omega (arith, sym number)

pub returns-clause-text : goal.returns-clause-text
returns-clause-text g c =
    let refs = c.args.repo.now.1.refs in
    let whole = line (codes "refs") (number_text (length refs)) ++ flat_map stored_ref refs in
    let none = ap (flat_map stored_ref) c.in-None.ensures.steps.0 in
    none_left whole (g.W.Sink.taken c.args.sink.now) (g.W.Sink.taken c.loop-name.sink) (flat_map stored_ref c.loop-name.name-iterator) none c.loop-name.invariant.2
