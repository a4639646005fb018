use Rattle.std.proofs.Common.{take, sym, ap, ◌∙◌}
use Rattle.gx_disk.specs.declared.call.Call.TheVariants.{CutOff}
use Rattle.gx_disk.specs.Disks.{begun, replayed}
use Rattle.gx_disk.proofs.Stops.{text_is}
use Rattle.gx_disk.proofs.disk.Disk.cut_off.Goals as goal

pub invariant_of-self-2 : goal.invariant_of-self-2
invariant_of-self-2 g c =
    let old = c.args.self.now in
    record { told = c.truncate.ensures.items ∙ ap (take c.args.at) old.told ∙ sym (text_is old.first.items old.calls.items (CutOff c.args.at)) ∙ ap (λ l. (replayed (begun old.first.items) l).text) (sym c.in-Ok.ensures.items) }
