use Rattle.std.proofs.Common.{[]}
use Rattle.gx_growing_parts.specs.declared.runs.Run.{Run}
use Rattle.gx_look.proofs.RowsBetween.{begun_none, with_run}
use Rattle.gx_look.proofs.rows.find_begun.Goals as goal

pub loop-run-init : goal.loop-run-init
loop-run-init g c = begun_none (g.S.ReadAt.text c.args.source.now) c.args.ends.now

pub loop-run-preserved : goal.loop-run-preserved
loop-run-preserved g c =
    let nothing : Run = record { place = 0; count = 0; digest = [] } in
    with_run (g.S.ReadAt.text c.args.source.now) c.args.runs.now c.loop-run.run-index nothing c.args.ends.now c.loop-run.found c.in_ok-more.more c.joined-found.result c.loop-run-test.true c.joined-found.ensures c.loop-run.invariant c.in_ok-more.ensures
