use Rattle.std.proofs.Common.{sym, ◌∙◌, is_ok}
use Rattle.gx_disk.proofs.Stops.{still_read}
use Rattle.gx_disk.proofs.disk.Disk.settle.Goals as goal

pub invariant_of-self-2 : goal.invariant_of-self-2
invariant_of-self-2 g c =
    let old = c.args.self.now in
    record { told = old.told ∙ sym (still_read old.first.items (is_ok c.push.result) old.calls.items c.push.new.self.items c.push.ensures.items) }
