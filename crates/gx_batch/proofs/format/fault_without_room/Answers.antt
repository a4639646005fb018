use Rattle.std.proofs.Common.{Ok, ap, subst, ◌∙◌}
use Rattle.gx_batch.specs.Formats.{GivesFirst}
use Rattle.gx_batch.specs.declared.fault.FormatFault.TheVariants.{OutOfMemory}
use Rattle.gx_batch.proofs.ReadFormats.{nothing_read}
use Rattle.gx_batch.proofs.format.fault_without_room.Goals as goal

pub returns-in-Ok-None : goal.returns-in-Ok-None
returns-in-Ok-None c =
    let rest = c.loop-after.rest.now in
    c.loop-after.invariant OutOfMemory (nothing_read rest (subst (GivesFirst rest) (c.in-Ok-None.is ∙ ap Ok c.in-Ok-None.field-0-is) c.first_part.ensures))
