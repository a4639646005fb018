use Rattle.std.proofs.Common.{◌++◌, ◌∙◌, subst, Err}
use Rattle.std.proofs.lemmas.Result.{err_from_is_err_and}
use Rattle.gx_model.proofs.Texts.SentTexts.{all_left, less_left}
use Rattle.gx_print.specs.Logs.{entry_of_parts}
use Rattle.gx_told.specs.Printing.{PrintsText}
use Rattle.gx_told.proofs.Pieces.{cut_short, last_sent}
use Rattle.gx_told.proofs.Prints.{none_sent, sent_prints}
use Rattle.gx_told.proofs.log.walks.print_listed.Goals as goal

pub put_commit-requires-clause-body : goal.put_commit-requires-clause-body
put_commit-requires-clause-body g c = c.requires.0

pub returns-in_err-put_commit : goal.returns-in_err-put_commit
returns-in_err-put_commit g c =
    let p = err_from_is_err_and c.from_residual.result c.from_residual.ensures.1 in
    rw (p.1, p.2) (none_sent (c.args.before.now ++ entry_of_parts c.args.options c.args.name.now.bytes c.args.view.now) (g.W.Sink.taken c.args.sink.now))

pub returns-in_err-put_text : goal.returns-in_err-put_text
returns-in_err-put_text g c =
    let p = err_from_is_err_and c.from_residual-in_err-put_text.result c.from_residual-in_err-put_text.ensures.1 in
    let before = c.args.before.now in
    let entry = entry_of_parts c.args.options c.args.name.now.bytes c.args.view.now in
    let was = g.W.Sink.taken c.args.sink.now in
    let mid = g.W.Sink.taken c.put_text.new.sink in
    let fault = c.in_err-put_text.field-0.0 in
    let sent = sent_prints before was mid (Err fault) c.in_err-put_text.ensures in
    rw (p.1, p.2) (cut_short was was mid (before ++ entry) before entry fault (all_left (before ++ entry) was) sent)

pub returns : goal.returns
returns g c =
    let before = c.args.before.now in
    let entry = entry_of_parts c.args.options c.args.name.now.bytes c.args.view.now in
    let was = g.W.Sink.taken c.args.sink.now in
    let mid = g.W.Sink.taken c.put_text.new.sink in
    let now = g.W.Sink.taken c.put_text-2.new.sink in
    let answer = c.put_text-2.result in
    let made = c.as_slice.ensures.value ∙ c.in_ok-put_commit.ensures in
    let printed = subst (λ text. PrintsText text mid now answer) made (sent_prints c.as_slice.result.now mid now answer c.put_text-2.ensures) in
    last_sent was mid now (before ++ entry) entry answer (less_left (before ++ entry) was was mid before entry (all_left (before ++ entry) was) c.in_ok-put_text.ensures) printed
