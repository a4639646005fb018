use Rattle.std.proofs.Common.{arith}
use Rattle.gx_command.proofs.PassedCommands.{passed_none, passed_more, passes_all, passes_over, passes_end, passes_fault, over_unless}
use Rattle.gx_command.proofs.PassedItems.{on_from_start, on_one_more, on_till_end, on_till_fault, on_till_over, on_to_all}
use Rattle.gx_command.proofs.ahead.Ahead.pass_commands.Goals as goal

pub returns-in_default : goal.returns-in_default
returns-in_default g c = record {
  explains = on_till_over _ _ _ _ _ c.loop-passed-test.true (over_unless _ c.in_default.not-Open) c.loop-passed.invariant.explained;
  passes = passes_over _ _ _ _ _ c.loop-passed-test.true (over_unless _ c.in_default.not-Open) c.loop-passed.invariant.passed;
  falls = c.loop-passed.invariant.falls;
}

pub returns-in-Ok-None-clause-passes : goal.returns-in-Ok-None-clause-passes
returns-in-Ok-None-clause-passes g c =
    let passed = rw c.in-Open.is at c.loop-passed.invariant.passed in
    passes_end g.row.A.Denot _ _ _ _ _ _ c.loop-passed-test.true passed (rw c.in-Ok-None.field-0-is at c.in-Ok-None.ensures.reads)

pub returns-in-Err-clause-passes : goal.returns-in-Err-clause-passes
returns-in-Err-clause-passes g c =
    let passed = rw c.in-Open.is at c.loop-passed.invariant.passed in
    rw c.fault_at.ensures (passes_fault g.row.A.Denot _ _ _ _ _ _ _ _ c.loop-passed-test.true passed c.in-Err.ensures.reads)

pub returns-in-Ok-None-clause-explains : goal.returns-in-Ok-None-clause-explains
returns-in-Ok-None-clause-explains g c =
    let passed = rw c.in-Open.is at c.loop-passed.invariant.explained in
    on_till_end _ _ _ g.row.A.Denot _ _ _ c.loop-passed-test.true passed (rw c.in-Ok-None.field-0-is at c.in-Ok-None.ensures.explains)

pub returns-in-Err-clause-explains : goal.returns-in-Err-clause-explains
returns-in-Err-clause-explains g c =
    let passed = rw c.in-Open.is at c.loop-passed.invariant.explained in
    rw c.fault_at.ensures (on_till_fault g.row.A.Denot _ _ _ _ _ _ _ c.loop-passed-test.true passed c.in-Err.ensures.explains)

pub loop-passed-preserved : goal.loop-passed-preserved
loop-passed-preserved g c =
    let passed = rw c.in-Open.is at c.loop-passed.invariant.passed in
    record {
      passed = rw c.after-state.ensures (passed_more _ _ c.in-Ok-Some.command _ _ _ passed (rw c.in-Ok-Some.field-0-is at c.in-Ok-Some.ensures.reads));
      explained = rw c.after-state.ensures (on_one_more _ _ _ _ _ c.in-Ok-Some.command (rw c.in-Open.is at c.loop-passed.invariant.explained) (rw c.in-Ok-Some.field-0-is at c.in-Ok-Some.ensures.explains));
      within = omega (arith, c.loop-passed-test.true);
      falls = omega (arith, c.loop-passed.invariant.falls, rw c.in-Ok-Some.field-0-is at c.in-Ok-Some.ensures.falls);
    }

pub returns-clause-passes : goal.returns-clause-passes
returns-clause-passes g c = passes_all _ _ _ _ _ (omega (arith, c.loop-passed.invariant.within, c.loop-passed-test.false)) c.loop-passed.invariant.passed

pub loop-passed-init : goal.loop-passed-init
loop-passed-init g c = record { passed = rw (c.at_start-state.ensures, c.none.ensures) (passed_none _); explained = rw (c.at_start-state.ensures, c.none.ensures) (on_from_start _); within = omega arith; falls = omega arith }

pub returns-clause-explains : goal.returns-clause-explains
returns-clause-explains g c = on_to_all _ _ _ _ _ (omega (arith, c.loop-passed.invariant.within, c.loop-passed-test.false)) c.loop-passed.invariant.explained
