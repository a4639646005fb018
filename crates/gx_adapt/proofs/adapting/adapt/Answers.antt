use Rattle.std.proofs.Common.{refl, arith}
use Rattle.gx_adapt.specs.declared.fault.AdaptFault.TheVariants as faults
use Rattle.gx_adapt.proofs.Progress.{Progress-none, Progress-room, Progress-item, Adapts-end, Adapts-fault, Adapts-unsent}
use Rattle.gx_adapt.proofs.Readable.{again}
use Rattle.gx_adapt.proofs.adapting.adapt.Goals as goal

pub loop-fault-init : goal.loop-fault-init
loop-fault-init g c = Progress-none _ _ _ _ _ c.new-losses.result _ _ _ c.new-reader.ensures.stream c.new-reader.ensures.explains c.start-course.ensures c.new-marks.ensures c.new-losses.ensures c.new-report.ensures (omega (arith, c.new-reader.ensures.most))

pub returns-in-Err-clause-adapts : goal.returns-in-Err-clause-adapts
returns-in-Err-clause-adapts g c =
    let read = rw c.in-Err.is at c.next.follows.holds-at-none in
    rw c.from.ensures (Adapts-fault _ _ _ _ _ _ _ _ _ _ _ c.in-Err.fault c.loop-fault.invariant read)

pub returns-in-Ok-None-clause-adapts : goal.returns-in-Ok-None-clause-adapts
returns-in-Ok-None-clause-adapts g c =
    let read = rw c.in-Ok-None.field-0-is at (rw c.in-Ok-None.is at c.next.follows.holds-at-none) in
    Adapts-end _ _ _ _ _ _ _ _ _ _ _ c.loop-fault.invariant read

pub returns-in-Ok-None-clause-again : goal.returns-in-Ok-None-clause-again
returns-in-Ok-None-clause-again g c = again c.args.drop_signatures (g.R.Source.coming c.args.source)

pub send_item-requires : goal.send_item-requires
send_item-requires g c = record { room = Progress-room _ _ _ _ _ _ _ _ _ _ c.loop-fault.invariant }

pub returns-in-Err-send_item-clause-adapts : goal.returns-in-Err-send_item-clause-adapts
returns-in-Err-send_item-clause-adapts g c =
    let read = rw c.in-Ok-Some.field-0-is at (rw c.in-Ok-Some.is at c.next.follows.holds-at-none) in
    Adapts-unsent _ _ _ _ _ _ _ _ _ _ _ _ c.in-Ok-Some.item _ c.in-Err-send_item.fault c.lot_in-lot.ensures c.in-Err-send_item.ensures.sends c.loop-fault.invariant read

pub loop-fault-preserved : goal.loop-fault-preserved
loop-fault-preserved g c =
    let read = rw c.in-Ok-Some.field-0-is at (rw c.in-Ok-Some.is at c.next.follows.holds-at-none) in
    Progress-item _ _ _ _ _ _ _ _ _ _ _ _ _ _ _ _ _ c.in-Ok-Some.item _ c.past-course.ensures c.in_default-send_item.ensures.passes c.in_default.ensures c.lot_in-lot.ensures c.in_default-send_item.ensures.counts read.1 c.in_default-send_item.ensures.sends c.loop-fault.invariant read

pub returns-in-Err-pass-clause-adapts : goal.returns-in-Err-pass-clause-adapts
returns-in-Err-pass-clause-adapts g c =
    let read = rw c.in-Ok-Some.field-0-is at (rw c.in-Ok-Some.is at c.next.follows.holds-at-none) in
    rw c.from-in-Err-pass.ensures (Adapts-unsent _ _ _ _ _ _ _ _ _ _ _ _ c.in-Ok-Some.item _ faults.OutOfMemory refl refl c.loop-fault.invariant read)
