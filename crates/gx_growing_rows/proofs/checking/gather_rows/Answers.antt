use Rattle.std.proofs.Common.{[], get_or}
use Rattle.std.proofs.lemmas.List.{get_or_default}
use Rattle.sha2.specs.Sha256.{sha256}
use Rattle.gx_growing_parts.specs.declared.runs.Run.{Run as GivenRun}
use Rattle.gx_growing_rows.proofs.GatheredRows.{run_fallen}
use Rattle.gx_growing_rows.proofs.checking.gather_rows.Goals as goal

pub returns-then-not-branch : goal.returns-then-not-branch
returns-then-not-branch g c =
    let none : GivenRun = record { place = 0; count = 0; digest = [] } in
    let runs = c.args.runs.now in
    let at = c.loop-run.run-index in
    let run = get_or runs at none in
    run_fallen sha256 c.args.text.now runs c.args.most at c.loop-run.live.items c.loop-run.invariant c.loop-run-test.true run (get_or_default runs at run none c.loop-run-test.true) c.push_run.new.live.items
    (rw c.if-not-branch.true at c.in_ok-push_run.ensures)
