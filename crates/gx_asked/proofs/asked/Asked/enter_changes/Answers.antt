use Rattle.std.proofs.Common.{map, take}
use Rattle.std.proofs.lemmas.Result.{err_from_is_err_and}
use Rattle.std.specs.List.{AllByRecursion}
use Rattle.gx_command.specs.Views.{shown_change}
use Rattle.gx_asked.specs.Entering.{AsksChange, IsOtherChange}
use Rattle.gx_asked.proofs.EnteredCommands.{all_at, all_next, changes_kept, keeps_more, why_more}
use Rattle.gx_asked.proofs.asked.Asked.enter_changes.Goals as goal

pub returns-in_err-enter_change-clause-fault : goal.returns-in_err-enter_change-clause-fault
returns-in_err-enter_change-clause-fault g c =
    let all = c.args.changes.now in
    let l = c.loop-change in
    let p = err_from_is_err_and c.from_residual.result c.from_residual.ensures.1 in
    rw (p.1, p.2) (why_more (IsOtherChange (shown_change c.change-item.result)) (AllByRecursion IsOtherChange (map shown_change all))
    (all_at IsOtherChange shown_change all l.change-index c.change-item.result c.loop-change-test.true c.change-item.is) c.in_err-enter_change.field-0.0 c.in_err-enter_change.ensures.fault)

pub loop-change-preserved : goal.loop-change-preserved
loop-change-preserved g c =
    let l = c.loop-change in
    let all = c.args.changes.now in
    record {
      kept = keeps_more c.args.self.now l.self c.enter_change.new.self l.invariant.kept c.enter_change.ensures.kept;
      asked = all_next (AsksChange c.enter_change.new.self) shown_change all l.change-index c.change-item.result c.loop-change-test.true c.change-item.is
          (changes_kept l.self c.enter_change.new.self c.enter_change.ensures.kept (map shown_change (take l.change-index all)) l.invariant.asked) c.in_ok-enter_change.ensures.asked;
    }
