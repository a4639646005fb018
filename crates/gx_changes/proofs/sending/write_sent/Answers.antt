use Rattle.std.proofs.Common.{rules, subst}
use Rattle.std.proofs.lemmas.Result.{err_from_is_err_and}
use Rattle.gx_sending.specs.Faults.{stopped}
use Rattle.gx_tips.specs.Tips.{targets}
use Rattle.gx_changes.specs.Texts.{DeliversAll, commits_sent}
use Rattle.gx_changes.proofs.Texts.{all_delivered, not_begun}
use Rattle.gx_changes.proofs.Told.{at_some, each_some}
use Rattle.gx_changes.proofs.sending.write_sent.Goals as goal

pub returns-in_err-branches-clause-text : goal.returns-in_err-branches-clause-text
returns-in_err-branches-clause-text g c =
    let o = c.args.objects.now in
    let p = err_from_is_err_and c.from_residual.result c.from_residual.ensures.1 in
    rw (p.1, p.2) (not_begun (g.O.Objects.name_of o) c.args.closed c.args.commits.now c.args.refs.now (g.O.Objects.told o) c.in_err-branches.field-0.0 (g.W.Sink.taken c.args.sink.now) c.in_err-branches.ensures.fault)

pub returns-clause-text : goal.returns-clause-text
returns-clause-text g c =
    let o = c.args.objects.now in
    let name = g.O.Objects.name_of o in
    let told = g.O.Objects.told o in
    let commits = c.args.commits.now in
    let refs = c.args.refs.now in
    let closed = c.args.closed in
    let result = c.write_text-result.result in
    let now = c.write_text-result.new.written.output.taken in
    each_some told _ (λ r s.
    let adds = at_some told _ r s c.write_text-result.ensures.adds in
    let done = at_some told _ r s (all_delivered name closed commits refs c.new-written.result told c.write_text-result.new.written result c.new-written.ensures.bytes c.write_text-result.ensures.adds) in
    let sent = subst (λ t. DeliversAll name closed (commits_sent r commits) (targets r refs) t now (stopped result)) c.new-written.ensures.taken done in
    let left = c.into_sink.ensures.taken in
    let kept = adds.text.0 in
    let first = c.new-written.ensures.name in
    let last = c.into_sink.ensures.name in
    search (rules, sent, left, kept, first, last))
