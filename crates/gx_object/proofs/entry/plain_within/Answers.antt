use Rattle.std.proofs.Common.{◌<◌, length, get_or, ap, ◌∙◌, arith, length-take-le}
use Rattle.gx_object.proofs.FirstEntries.{ended_there, front_of_all, lacks_before}
use Rattle.gx_object.proofs.entry.plain_within.Goals as goal

pub returns-then-len-run_before : goal.returns-then-len-run_before
returns-then-len-run_before g c =
    let near = c.in_ok-near.near.now in
    let chunk = c.in_ok-near.ensures.cases in
    let len = c.run_before-len.result in
    let is = c.run_before-len.ensures in
    let long = ap length chunk.same ∙ length-take-le g.row.LANES c.args.bytes.now chunk.enough in
    let within : len < length near = omega (arith, c.if-len.true, long) in
    front_of_all c.args.bytes.now near g.row.LANES len chunk.enough chunk.same (record {
      within = within;
      ended = ap (λ n. get_or near n 0) is ∙ ended_there 0 near (omega (arith, is, within));
      no_nul = lacks_before 0 len near (omega (arith, is));
      no_slash = lacks_before 47 len near (omega (arith, c.run_before.ensures, c.if-len-run_before.true));
    })
