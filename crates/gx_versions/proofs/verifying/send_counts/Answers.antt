use Rattle.std.proofs.Common.{◌≡◌, ◌++◌, ◌∙◌, ap, subst, codes, length}
use Rattle.std.proofs.lemmas.Iterator.Consumers.{YieldsList-from_rest, count_from_yields_List}
use Rattle.std.proofs.lemmas.Result.{err_from_is_err_and}
use Rattle.gx_model.specs.Objects.{line}
use Rattle.gx_model.specs.Texts.Numbers.{number_text}
use Rattle.gx_model.specs.Texts.Sinks.{FailedWithin, Took}
use Rattle.gx_model.proofs.Texts.SentTexts.{all_left, left_fails, less_left}
use Rattle.gx_repo.specs.Refs.{shown_lent_ref}
use Rattle.gx_versions.specs.Versions.{counts_text}
use Rattle.gx_versions.proofs.SentCounts.{sent_last}
use Rattle.gx_versions.proofs.verifying.send_counts.Goals as goal

pub returns-in_err-send_count : goal.returns-in_err-send_count
returns-in_err-send_count g c =
    let p = err_from_is_err_and c.from_residual.result c.from_residual.ensures.1 in
    let r = c.args.repo.now.1 in
    let whole = counts_text c.args.version c.args.bytes r in
    let version = line (codes "version") (number_text c.args.version) in
    let objects = line (codes "objects") (number_text (length r.records)) in
    let refs = line (codes "refs") (number_text (length r.refs)) in
    let bytes = line (codes "bytes") (number_text c.args.bytes) in
    let was = g.W.Sink.taken c.args.sink.now in
    let first = g.W.Sink.taken c.send_count.new.sink in
    rw p.1 (left_fails whole was was first version (objects ++ (refs ++ bytes)) (all_left whole was) c.in_err-send_count.ensures)

pub returns-in_err-send_count-2 : goal.returns-in_err-send_count-2
returns-in_err-send_count-2 g c =
    let p = err_from_is_err_and c.from_residual-in_err-send_count-2.result c.from_residual-in_err-send_count-2.ensures.1 in
    let r = c.args.repo.now.1 in
    let whole = counts_text c.args.version c.args.bytes r in
    let version = line (codes "version") (number_text c.args.version) in
    let objects = line (codes "objects") (number_text (length r.records)) in
    let refs = line (codes "refs") (number_text (length r.refs)) in
    let bytes = line (codes "bytes") (number_text c.args.bytes) in
    let was = g.W.Sink.taken c.args.sink.now in
    let first = g.W.Sink.taken c.send_count.new.sink in
    let second = g.W.Sink.taken c.send_count-2.new.sink in
    let counted : c.len.result ≡ length r.records = c.len.ensures.count ∙ ap (λ s. length s.1) c.store.ensures.held in
    let begun = less_left whole was was first version (objects ++ (refs ++ bytes)) (all_left whole was) c.in_ok-send_count.ensures in
    rw p.1 (left_fails whole was first second objects (refs ++ bytes) begun (subst (λ n. FailedWithin first second (line (codes "objects") (number_text n))) counted c.in_err-send_count-2.ensures))

pub returns-in_err-send_count-3 : goal.returns-in_err-send_count-3
returns-in_err-send_count-3 g c =
    let p = err_from_is_err_and c.from_residual-in_err-send_count-3.result c.from_residual-in_err-send_count-3.ensures.1 in
    let r = c.args.repo.now.1 in
    let whole = counts_text c.args.version c.args.bytes r in
    let version = line (codes "version") (number_text c.args.version) in
    let objects = line (codes "objects") (number_text (length r.records)) in
    let refs = line (codes "refs") (number_text (length r.refs)) in
    let bytes = line (codes "bytes") (number_text c.args.bytes) in
    let was = g.W.Sink.taken c.args.sink.now in
    let first = g.W.Sink.taken c.send_count.new.sink in
    let second = g.W.Sink.taken c.send_count-2.new.sink in
    let third = g.W.Sink.taken c.send_count-3.new.sink in
    let counted : c.len.result ≡ length r.records = c.len.ensures.count ∙ ap (λ s. length s.1) c.store.ensures.held in
    let number = count_from_yields_List c.refs.result c.count.result c.count.ensures.ran (YieldsList-from_rest {shows = shown_lent_ref} r.refs c.refs.ensures.held) in
    let begun = less_left whole was was first version (objects ++ (refs ++ bytes)) (all_left whole was) c.in_ok-send_count.ensures in
    let half = less_left whole was first second objects (refs ++ bytes) begun (subst (λ n. Took first second (line (codes "objects") (number_text n))) counted c.in_ok-send_count-2.ensures) in
    rw p.1 (left_fails whole was second third refs bytes half (subst (λ n. FailedWithin second third (line (codes "refs") (number_text n))) number c.in_err-send_count-3.ensures))

pub returns : goal.returns
returns g c =
    let r = c.args.repo.now.1 in
    let whole = counts_text c.args.version c.args.bytes r in
    let version = line (codes "version") (number_text c.args.version) in
    let objects = line (codes "objects") (number_text (length r.records)) in
    let refs = line (codes "refs") (number_text (length r.refs)) in
    let bytes = line (codes "bytes") (number_text c.args.bytes) in
    let was = g.W.Sink.taken c.args.sink.now in
    let first = g.W.Sink.taken c.send_count.new.sink in
    let second = g.W.Sink.taken c.send_count-2.new.sink in
    let third = g.W.Sink.taken c.send_count-3.new.sink in
    let counted : c.len.result ≡ length r.records = c.len.ensures.count ∙ ap (λ s. length s.1) c.store.ensures.held in
    let number = count_from_yields_List c.refs.result c.count.result c.count.ensures.ran (YieldsList-from_rest {shows = shown_lent_ref} r.refs c.refs.ensures.held) in
    let begun = less_left whole was was first version (objects ++ (refs ++ bytes)) (all_left whole was) c.in_ok-send_count.ensures in
    let half = less_left whole was first second objects (refs ++ bytes) begun (subst (λ n. Took first second (line (codes "objects") (number_text n))) counted c.in_ok-send_count-2.ensures) in
    let last = less_left whole was second third refs bytes half (subst (λ n. Took second third (line (codes "refs") (number_text n))) number c.in_ok-send_count-3.ensures) in
    sent_last whole was third (g.W.Sink.taken c.send_count-4.new.sink) bytes c.send_count-4.result last c.send_count-4.ensures
