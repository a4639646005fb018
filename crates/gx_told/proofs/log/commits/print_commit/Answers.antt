use Rattle.std.proofs.Common.{◌++◌, ◌∙◌, subst, Err}
use Rattle.std.proofs.lemmas.Result.{err_from_is_err_and}
use Rattle.gx_model.specs.declared.objects.Kind.TheVariants as kinds
use Rattle.gx_model.specs.Records.Sound.{IsSound}
use Rattle.gx_model.proofs.Texts.SentTexts.{all_left, less_left}
use Rattle.std.specs.Borrow.{Bor}
use Rattle.gx_model.specs.Objects.{CommitParts}
use Rattle.gx_model.specs.Texts.{Bytes}
use Rattle.gx_questions.specs.Objects.{IsCommitAt}
use Rattle.gx_rev.specs.Objects.{IsHeldAs, commit_at}
use Rattle.gx_print.specs.Logs.{entry_of}
use Rattle.gx_told.specs.Printing.{PrintsText}
use Rattle.gx_told.proofs.CommitLines.{entry_made}
use Rattle.gx_told.proofs.Pieces.{cut_short, last_sent}
use Rattle.gx_told.proofs.Prints.{held_stops, none_sent, sent_prints}
use Rattle.gx_told.proofs.Tellings.{all_told, each_told}
use Rattle.gx_told.proofs.log.commits.print_commit.Goals as goal

pub put_commit-requires-clause-body : goal.put_commit-requires-clause-body
put_commit-requires-clause-body g c = c.in-Ok.ensures.text.0

pub returns-in_err-put_commit-in-Ok : goal.returns-in_err-put_commit-in-Ok
returns-in_err-put_commit-in-Ok g c =
    let p = err_from_is_err_and c.from_residual.result c.from_residual.ensures.1 in
    let name = g.O.Objects.name_of c.args.objects.now in
    let was = g.W.Sink.taken c.args.sink.now in
    rw (p.1, p.2) (each_told (g.O.Objects.told c.args.objects.now) _ (λ r. none_sent (c.args.before.now ++ entry_of name c.args.options (commit_at r c.args.commit.now)) was))

pub returns-in_err-put_text-in-Ok : goal.returns-in_err-put_text-in-Ok
returns-in_err-put_text-in-Ok g c =
    let p = err_from_is_err_and c.from_residual-in_err-put_text-in-Ok.result c.from_residual-in_err-put_text-in-Ok.ensures.1 in
    let name = g.O.Objects.name_of c.args.objects.now in
    let before = c.args.before.now in
    let was = g.W.Sink.taken c.args.sink.now in
    let mid = g.W.Sink.taken c.put_text.new.sink in
    let fault = c.in_err-put_text-in-Ok.field-0.0 in
    let sent = sent_prints before was mid (Err fault) c.in_err-put_text-in-Ok.ensures in
    rw (p.1, p.2) (each_told (g.O.Objects.told c.args.objects.now) _ (λ r.
    let entry = entry_of name c.args.options (commit_at r c.args.commit.now) in
    cut_short was was mid (before ++ entry) before entry fault (all_left (before ++ entry) was) sent))

pub returns-in_ok-put_text-in-Ok : goal.returns-in_ok-put_text-in-Ok
returns-in_ok-put_text-in-Ok g c =
    let told = g.O.Objects.told c.args.objects.now in
    let name = g.O.Objects.name_of c.args.objects.now in
    let namer = c.sound_if_told.ensures.namer in
    let o = c.args.options in
    let n = c.args.commit.now in
    let before = c.args.before.now in
    let was = g.W.Sink.taken c.args.sink.now in
    let mid = g.W.Sink.taken c.put_text.new.sink in
    let now = g.W.Sink.taken c.put_text-in-Ok.new.sink in
    let answer = c.put_text-in-Ok.result in
    all_told told (IsSound name) (λ r. IsHeldAs kinds.Commit r n) (λ r. IsCommitAt name n r (c.in-Ok.body, c.in-Ok.view)) (λ r. PrintsText (before ++ entry_of name o (commit_at r n)) was now answer)
    (λ r sound held found.
    let entry = entry_of name o (commit_at r n) in
    let made = c.as_slice.ensures.value ∙ c.in_ok-put_commit-in-Ok.ensures ∙ entry_made name namer r sound o n c.in-Ok.view held found.parts in
    let printed = subst (λ text. PrintsText text mid now answer) made (sent_prints c.as_slice.result.now mid now answer c.put_text-in-Ok.ensures) in
    last_sent was mid now (before ++ entry) entry answer (less_left (before ++ entry) was was mid before entry (all_left (before ++ entry) was) c.in_ok-put_text-in-Ok.ensures) printed)
    c.sound_if_told.ensures.sound c.requires c.in-Ok.ensures.commit

pub returns-in-Err : goal.returns-in-Err
returns-in-Err g c =
    let told = g.O.Objects.told c.args.objects.now in
    let name = g.O.Objects.name_of c.args.objects.now in
    rw c.refused.ensures (held_stops (Bor Bytes × CommitParts) told (λ r. c.args.before.now ++ entry_of name c.args.options (commit_at r c.args.commit.now)) (g.W.Sink.taken c.args.sink.now) c.in-Err.fault c.in-Err.ensures.fault)
