use Rattle.std.proofs.Common.{arith}
use Rattle.std.proofs.lemmas.List.{map-append}
use Rattle.std.proofs.lemmas.Result.{err_from_is_err_and}
use Rattle.gx_model.specs.Streams.Grammar.{changes}
use Rattle.gx_command.specs.Bodies.{next_change}
use Rattle.gx_command.specs.Views.{shown_change}
use Rattle.gx_command.proofs.Unrolled.{changes_unrolled, collects_one, collects_all, collects_fails}
use Rattle.gx_command.proofs.Explained.{gathers_all, gathers_fails, gathers_one}
use Rattle.gx_command.proofs.ahead.Ahead.changes.Goals as goal

pub returns-in_err-change-clause-reads : goal.returns-in_err-change-clause-reads
returns-in_err-change-clause-reads g c =
    let p = err_from_is_err_and c.from_residual.result c.from_residual.ensures.1 in
    rw (p.1, p.2) (collects_fails next_change changes changes_unrolled shown_change _ _ _ _ _ _ _ c.loop-changes.invariant.collects c.in_err-change.ensures.reads)

pub loop-changes-preserved : goal.loop-changes-preserved
loop-changes-preserved g c =
    let one = collects_one next_change changes changes_unrolled shown_change _ _ _ _ _ c.loop-changes.invariant.collects (rw c.in-Some.is at c.in_ok-change.ensures.reads) in
    let behind = gathers_one next_change changes changes_unrolled shown_change _ _ _ _ _ c.loop-changes.invariant.gathers (rw c.in-Some.is at c.in_ok-change.ensures.explains) in
    record {
      collects = rw (c.in_ok-push.ensures.items, map-append) one;
      gathers = rw (c.in_ok-push.ensures.items, map-append) behind;
      falls = omega (arith, rw c.in-Some.is at c.in_ok-change.ensures.falls);
    }

pub returns-clause-reads : goal.returns-clause-reads
returns-clause-reads g c = collects_all next_change changes changes_unrolled shown_change _ _ _ _ _ c.loop-changes.invariant.collects (rw c.in_default.is at c.in_ok-change.ensures.reads)

pub returns-in_err-change-clause-explains : goal.returns-in_err-change-clause-explains
returns-in_err-change-clause-explains g c =
    let p = err_from_is_err_and c.from_residual.result c.from_residual.ensures.1 in
    rw (p.1, p.2) (gathers_fails next_change changes changes_unrolled shown_change _ _ _ _ _ _ _ c.loop-changes.invariant.gathers c.in_err-change.ensures.explains)

pub returns-clause-explains : goal.returns-clause-explains
returns-clause-explains g c = gathers_all next_change changes changes_unrolled shown_change _ _ _ _ _ c.loop-changes.invariant.gathers (rw c.in_default.is at c.in_ok-change.ensures.explains)
