use Rattle.std.proofs.Common.{sym, ap, ◌∙◌}
use Rattle.gx_append.specs.Devices.{written_at}
use Rattle.gx_disk.specs.declared.call.Call.TheVariants.{Wrote}
use Rattle.gx_disk.specs.Disks.{begun, replayed}
use Rattle.gx_disk.proofs.Stops.{text_is}
use Rattle.gx_disk.proofs.disk.Disk.put.Goals as goal

pub invariant_of-self-2 : goal.invariant_of-self-2
invariant_of-self-2 g c =
    let old = c.args.self.now in
    record { told = c.in-Ok.ensures ∙ (λ i. written_at c.args.at (sym c.in-Ok-from_slice.ensures.items i) (c.as_slice.ensures.value i)) ∙ ap (written_at c.args.at c.in-Ok-from_slice.bytes.items) old.told ∙ sym (text_is old.first.items old.calls.items (Wrote c.args.at c.in-Ok-from_slice.bytes)) ∙ ap (λ l. (replayed (begun old.first.items) l).text) (sym c.in-Ok-push.ensures.items) }
