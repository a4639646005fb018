use Rattle.std.proofs.Common.{ap, subst}
use Rattle.gx_model.specs.Records.HistoryOf.{history_of}
use Rattle.gx_c.specs.Called.{git_name}
use Rattle.gx_c.specs.Called as called
use Rattle.gx_c.specs.Written.{AnswersChanges}
use Rattle.gx_c.proofs.Calling.{goes_over}
use Rattle.gx_c.proofs.calls.ginlarch_changes.Goals as goal

pub returns : goal.returns
returns c =
    let answered = subst (λ opened. AnswersChanges git_name (history_of opened.repo.1) c.args.closed c.changes.result) c.deref.ensures c.changes.ensures in
    goes_over (called.Changes c.args.closed) c.args.store.now c.put_back.new.store c.in-Some.ensures.1 c.put_back.ensures.held
    (record { repository = ap (λ opened. opened.repo) c.deref_mut.ensures.value; form = ap (λ opened. opened.form) c.deref_mut.ensures.value; words = ap (λ opened. opened.words) c.deref_mut.ensures.value; answer = answered })
    c.put_back.ensures.status c.put_back.ensures.open
