use Rattle.std.proofs.Common.{Some, sym, subst}
use Rattle.gx_append.specs.Devices.{WritesTo}
use Rattle.gx_disk.proofs.Notes.{write_leaves, write_passes, written}
use Rattle.gx_disk.proofs.device.DiskDevice.write_at.Goals as goal

pub returns-clause-written : goal.returns-clause-written
returns-clause-written g c within =
    let old = c.args.self.now in
    let new = c.write-done.new.self in
    subst (λ r. WritesTo c.args.at c.args.bytes.now r old.text.items (Some new.text.items)) (sym c.count.ensures.same)
    (written old.first.items new.first.items c.write-done.ensures.first old.calls.items new.calls.items old.text.items new.text.items old.told new.told c.args.at c.args.bytes.now c.write-done.result c.write-done.ensures.done c.write-done.ensures.failed)

pub returns-clause-left : goal.returns-clause-left
returns-clause-left g c =
    let old = c.args.self.now in
    let new = c.write-done.new.self in
    write_leaves old.first.items new.first.items c.write-done.ensures.first old.calls.items new.calls.items old.text.items new.text.items old.told new.told c.args.at c.args.bytes.now c.write-done.result c.write-done.ensures.done c.write-done.ensures.failed

pub returns-clause-time : goal.returns-clause-time
returns-clause-time g c =
    let old = c.args.self.now in
    let new = c.write-done.new.self in
    let time = write_passes old.first.items new.first.items c.write-done.ensures.first old.calls.items new.calls.items old.text.items new.text.items old.told new.told c.args.at c.args.bytes.now c.write-done.result c.write-done.ensures.done c.write-done.ensures.failed in
    record { later = time.later; nothing_else = time.nothing_else; keeps = time.keeps }
