use Rattle.std.proofs.Common.{arith}
use Rattle.gx_disk.proofs.Stops.{stop_goes_on}
use Rattle.gx_disk.proofs.disk.Disk.stopped.Goals as goal

pub loop-number-preserved : goal.loop-number-preserved
loop-number-preserved g c =
    let l = c.loop-number in
    let next =
    stop_goes_on c.args.self.now.first.items c.as_slice-calls.result.now l.number c.index-calls-number.result c.index-calls-number-in-loop-number.result l.text.items c.in_ok-text-2.text.items c.as_slice-in-loop-number.result.now l.left.items c.in_ok-left-2.left.items
    (omega (arith, c.loop-number-test.true, c.min-count.ensures)) c.index-calls-number.is c.index-calls-number-in-loop-number.is l.invariant.text l.invariant.left c.in_ok-text-2.ensures c.as_slice-in-loop-number.ensures.value c.in_ok-left-2.ensures in
    record { within = omega (arith, c.loop-number-test.true); text = next.0; left = next.1 }
