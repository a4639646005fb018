use Rattle.std.proofs.Common.{arith}
use Rattle.std.proofs.lemmas.List.{map-append}
use Rattle.std.proofs.lemmas.Result.{err_from_is_err_and}
use Rattle.std.specs.Prelude.{codes}
use Rattle.gx_model.specs.Streams.Grammar.{merges}
use Rattle.gx_model.specs.Streams.Lines.{optional, commit_ish_of}
use Rattle.gx_command.specs.Views.{shown_commit_ish}
use Rattle.gx_command.proofs.Unrolled.{merges_unrolled, collects_one, collects_all, collects_fails}
use Rattle.gx_command.proofs.Explained.{gathers_all, gathers_fails, gathers_one}
use Rattle.gx_command.proofs.ahead.Ahead.merges.Goals as goal

pub returns-in_err-merge-clause-reads : goal.returns-in_err-merge-clause-reads
returns-in_err-merge-clause-reads g c =
    let p = err_from_is_err_and c.from_residual.result c.from_residual.ensures.1 in
    rw (p.1, p.2) (collects_fails (optional (codes "merge") commit_ish_of) merges merges_unrolled shown_commit_ish _ _ _ _ _ _ _ c.loop-merges.invariant.collects c.in_err-merge.ensures.reads)

pub loop-merges-preserved : goal.loop-merges-preserved
loop-merges-preserved g c =
    let one = collects_one (optional (codes "merge") commit_ish_of) merges merges_unrolled shown_commit_ish _ _ _ _ _ c.loop-merges.invariant.collects (rw c.in-Some.is at c.in_ok-merge.ensures.reads) in
    let behind = gathers_one (optional (codes "merge") commit_ish_of) merges merges_unrolled shown_commit_ish _ _ _ _ _ c.loop-merges.invariant.gathers (rw c.in-Some.is at c.in_ok-merge.ensures.explains) in
    record {
      collects = rw (c.in_ok-push.ensures.items, map-append) one;
      gathers = rw (c.in_ok-push.ensures.items, map-append) behind;
      falls = omega (arith, rw c.in-Some.is at c.in_ok-merge.ensures.falls);
    }

pub returns-clause-reads : goal.returns-clause-reads
returns-clause-reads g c = collects_all (optional (codes "merge") commit_ish_of) merges merges_unrolled shown_commit_ish _ _ _ _ _ c.loop-merges.invariant.collects (rw c.in_default.is at c.in_ok-merge.ensures.reads)

pub returns-in_err-merge-clause-explains : goal.returns-in_err-merge-clause-explains
returns-in_err-merge-clause-explains g c =
    let p = err_from_is_err_and c.from_residual.result c.from_residual.ensures.1 in
    rw (p.1, p.2) (gathers_fails (optional (codes "merge") commit_ish_of) merges merges_unrolled shown_commit_ish _ _ _ _ _ _ _ c.loop-merges.invariant.gathers c.in_err-merge.ensures.explains)

pub returns-clause-explains : goal.returns-clause-explains
returns-clause-explains g c = gathers_all (optional (codes "merge") commit_ish_of) merges merges_unrolled shown_commit_ish _ _ _ _ _ c.loop-merges.invariant.gathers (rw c.in_default.is at c.in_ok-merge.ensures.explains)
