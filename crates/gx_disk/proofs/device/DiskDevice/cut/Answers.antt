use Rattle.std.proofs.Common.{Some, sym, subst}
use Rattle.gx_append.specs.Devices.{CutsTo}
use Rattle.gx_disk.specs.Disks.{IsCut}
use Rattle.gx_disk.proofs.Notes.{call_passes, cut_leaves, is_cut_off}
use Rattle.gx_disk.proofs.device.DiskDevice.cut.Goals as goal

pub returns-clause-kept : goal.returns-clause-kept
returns-clause-kept g c within =
    let old = c.args.self.now in
    let new = c.cut_off-done.new.self in
    subst (λ r. CutsTo c.args.at r old.text.items (Some new.text.items)) (sym c.count.ensures.same)
    (is_cut_off old.first.items new.first.items c.cut_off-done.ensures.first old.calls.items new.calls.items old.text.items new.text.items old.told new.told c.args.at c.cut_off-done.result c.cut_off-done.ensures.done c.cut_off-done.ensures.failed)

pub returns-clause-left : goal.returns-clause-left
returns-clause-left g c =
    let old = c.args.self.now in
    let new = c.cut_off-done.new.self in
    cut_leaves old.first.items new.first.items c.cut_off-done.ensures.first old.calls.items new.calls.items old.text.items new.text.items old.told new.told c.args.at c.cut_off-done.result c.cut_off-done.ensures.done c.cut_off-done.ensures.failed

pub returns-clause-time : goal.returns-clause-time
returns-clause-time g c =
    let old = c.args.self.now in
    let new = c.cut_off-done.new.self in
    let time = call_passes old.first.items new.first.items c.cut_off-done.ensures.first old.calls.items new.calls.items old.text.items new.text.items old.told new.told (IsCut c.args.at) c.cut_off-done.result c.cut_off-done.ensures.done c.cut_off-done.ensures.failed in
    record { later = time.later; nothing_else = time.nothing_else; keeps = time.keeps }
