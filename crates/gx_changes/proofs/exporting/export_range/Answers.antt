use Rattle.std.proofs.Common.{map, sym, subst, Ok, Err}
use Rattle.std.specs.Prelude.{IfSome}
use Rattle.std.proofs.lemmas.Result.{err_from_is_err_and}
use Rattle.gx_print.specs.Logs.{AreCommits}
use Rattle.gx_rev.specs.Views.{shown_range}
use Rattle.gx_sending.specs.Faults.{stopped}
use Rattle.gx_tips.specs.Spans.{AreNewestFirst}
use Rattle.gx_tips.specs.Tips.{AreTips, targets}
use Rattle.gx_changes.specs.Sayable.{FindsSayable}
use Rattle.gx_changes.specs.Texts.{DeliversAll, commits_sent}
use Rattle.gx_changes.proofs.Found.{commits_found, not_found, not_said, order_found, sent_out, sent_stops, tips_found}
use Rattle.gx_changes.proofs.exporting.export_range.Goals as goal

pub returns-in_err-refs : goal.returns-in_err-refs
returns-in_err-refs g c =
    let o = c.args.objects.now in
    let p = err_from_is_err_and c.from_residual.result c.from_residual.ensures.1 in
    rw (p.1, p.2) (record { range = not_found (g.O.Objects.name_of o) c.args.closed (map shown_range c.args.words.now) g.row.A.Denot (g.O.Objects.stands o) (g.O.Objects.told o) c.in_err-refs.field-0.0 (g.W.Sink.taken c.args.sink.now) c.in_err-refs.ensures })

pub check_sayable-requires : goal.check_sayable-requires
check_sayable-requires g c =
    let o = c.args.objects.now in
    let told = g.O.Objects.told o in
    let sent = c.in_ok-refs.field-0 in
    subst (λ names. IfSome told (λ r. AreCommits r names)) (sym c.deref.ensures.value) (commits_found (g.O.Objects.name_of o) (g.O.Objects.stands o) (map shown_range c.args.words.now) told sent c.in_ok-refs.ensures)

pub returns-in_err-check_sayable : goal.returns-in_err-check_sayable
returns-in_err-check_sayable g c =
    let o = c.args.objects.now in
    let told = g.O.Objects.told o in
    let sent = c.in_ok-refs.field-0 in
    let fault = c.in_err-check_sayable.field-0.0 in
    let said = subst (λ names. IfSome told (λ r. FindsSayable (commits_sent r names) (Err fault))) c.deref.ensures.value c.in_err-check_sayable.ensures in
    let p = err_from_is_err_and c.from_residual-in_err-check_sayable.result c.from_residual-in_err-check_sayable.ensures.1 in
    rw (p.1, p.2) (record { range = not_said (g.O.Objects.name_of o) c.args.closed (map shown_range c.args.words.now) (g.O.Objects.stands o) sent (g.W.Sink.taken c.args.sink.now) told fault c.in_ok-refs.ensures said })

pub write_sent-requires-clause-refs : goal.write_sent-requires-clause-refs
write_sent-requires-clause-refs g c =
    let o = c.args.objects.now in
    let told = g.O.Objects.told o in
    let stands = g.O.Objects.stands o in
    let sent = c.in_ok-refs.field-0 in
    let refs = c.deref-2.ensures.value in
    subst (λ tips. IfSome told (AreTips stands tips)) (sym refs) (tips_found (g.O.Objects.name_of o) stands (map shown_range c.args.words.now) told sent c.in_ok-refs.ensures)

pub write_sent-requires-clause-commits : goal.write_sent-requires-clause-commits
write_sent-requires-clause-commits g c =
    let o = c.args.objects.now in
    let told = g.O.Objects.told o in
    let sent = c.in_ok-refs.field-0 in
    let commits = c.deref-3.ensures.value in
    subst (λ names. IfSome told (AreNewestFirst names)) (sym commits) (order_found (g.O.Objects.name_of o) (g.O.Objects.stands o) (map shown_range c.args.words.now) told sent c.in_ok-refs.ensures)

pub returns-in_err-write_sent : goal.returns-in_err-write_sent
returns-in_err-write_sent g c =
    let o = c.args.objects.now in
    let name = g.O.Objects.name_of o in
    let told = g.O.Objects.told o in
    let closed = c.args.closed in
    let was = g.W.Sink.taken c.args.sink.now in
    let now = g.W.Sink.taken c.write_sent.new.sink in
    let sent = c.in_ok-refs.field-0 in
    let refs = c.deref-2.ensures.value in
    let commits = c.deref-3.ensures.value in
    let fault = c.in_err-write_sent.field-0.0 in
    let text = subst (λ names. IfSome told (λ r. DeliversAll name closed (commits_sent r names) (targets r c.deref-2.result.now) was now (stopped (Err fault)))) commits c.in_err-write_sent.ensures.text in
    let all = subst (λ tips. IfSome told (λ r. DeliversAll name closed (commits_sent r sent.commits.items) (targets r tips) was now (stopped (Err fault)))) refs text in
    let p = err_from_is_err_and c.from_residual-in_err-write_sent.result c.from_residual-in_err-write_sent.ensures.1 in
    rw (p.1, p.2) (record { range = sent_stops name closed (map shown_range c.args.words.now) (g.O.Objects.stands o) sent was now told fault c.in_ok-refs.ensures c.in_err-write_sent.ensures.fault all })

pub returns : goal.returns
returns g c =
    let o = c.args.objects.now in
    let name = g.O.Objects.name_of o in
    let told = g.O.Objects.told o in
    let closed = c.args.closed in
    let was = g.W.Sink.taken c.args.sink.now in
    let now = g.W.Sink.taken c.write_sent.new.sink in
    let sent = c.in_ok-refs.field-0 in
    let refs = c.deref-2.ensures.value in
    let commits = c.deref-3.ensures.value in
    let text = subst (λ names. IfSome told (λ r. DeliversAll name closed (commits_sent r names) (targets r c.deref-2.result.now) was now (Ok tt))) commits c.in_ok-write_sent.ensures.text in
    let all = subst (λ tips. IfSome told (λ r. DeliversAll name closed (commits_sent r sent.commits.items) (targets r tips) was now (Ok tt))) refs text in
    let said = subst (λ names. IfSome told (λ r. FindsSayable (commits_sent r names) (Ok tt))) c.deref.ensures.value c.in_ok-check_sayable.ensures in
    record { range = sent_out name closed (map shown_range c.args.words.now) (g.O.Objects.stands o) sent was now told c.in_ok-refs.ensures said all }
