use Rattle.std.proofs.Common.{Some, OnOk, sym, ap, subst}
use Rattle.gx_append.specs.Devices.{Only}
use Rattle.gx_disk.specs.Disks.{IsSync, MayLeave, begun, replayed}
use Rattle.gx_disk.proofs.Notes.{call_passes, sync_durable, sync_left, sync_same}
use Rattle.gx_disk.proofs.device.DiskDevice.sync.Goals as goal

pub returns-clause-same : goal.returns-clause-same
returns-clause-same g c =
    let old = c.args.self.now in
    let new = c.settle-done.new.self in
    ap Some (sync_same old.first.items new.first.items c.settle-done.ensures.first old.calls.items new.calls.items old.text.items new.text.items old.told new.told c.settle-done.result c.settle-done.ensures.done c.settle-done.ensures.failed)

pub returns-clause-durable : goal.returns-clause-durable
returns-clause-durable g c =
    let old = c.args.self.now in
    let new = c.settle-done.new.self in
    subst (λ r. OnOk r (Only old.text.items (MayLeave (replayed (begun new.first.items) new.calls.items)))) (sym c.count.ensures.same)
    (sync_durable old.first.items new.first.items c.settle-done.ensures.first old.calls.items new.calls.items old.text.items new.text.items old.told new.told c.settle-done.result c.settle-done.ensures.done)

pub returns-clause-left : goal.returns-clause-left
returns-clause-left g c =
    let old = c.args.self.now in
    let new = c.settle-done.new.self in
    sync_left old.first.items new.first.items c.settle-done.ensures.first old.calls.items new.calls.items old.text.items new.text.items old.told new.told c.settle-done.result c.settle-done.ensures.done c.settle-done.ensures.failed

pub returns-clause-time : goal.returns-clause-time
returns-clause-time g c =
    let old = c.args.self.now in
    let new = c.settle-done.new.self in
    let time = call_passes old.first.items new.first.items c.settle-done.ensures.first old.calls.items new.calls.items old.text.items new.text.items old.told new.told IsSync c.settle-done.result c.settle-done.ensures.done c.settle-done.ensures.failed in
    record { later = time.later; nothing_else = time.nothing_else; keeps = time.keeps }
