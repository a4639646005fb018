use Rattle.std.proofs.Common.{◌+◌, ◌≤◌, arith, length}
use Rattle.sha2.specs.Sha256.{sha256}
use Rattle.gx_growing_parts.specs.Shown.{shown_run}
use Rattle.gx_growing_rows.proofs.GatheredRows.{pushed_so}
use Rattle.gx_growing_rows.proofs.checking.push_run.Goals as goal

pub returns : goal.returns
returns g c =
    let run = shown_run c.args.run.now in
    let few : length c.args.live.now.items + run.count ≤ c.args.most = omega (arith, c.if-run-most.false, c.requires, c.len.ensures) in
    pushed_so sha256 c.args.text.now c.args.most run c.in-Some.rows.now c.args.live.now.items c.push_rows.new.live.items c.push_rows.result c.in-Some.ensures.0 c.in-Some.ensures.1 few c.push_rows.ensures
