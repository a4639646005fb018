use Rattle.std.proofs.Common.{length}
use Rattle.gx_batch.specs.Formats.{IsUnread, format_of}
use Rattle.gx_batch.specs.declared.fault.FormatFault.{FormatFault}
use Rattle.gx_batch.proofs.format.fault_without_room.Given as goal

abbrev pub invariant-loop-after : goal.invariant-loop-after
invariant-loop-after l = (fault : FormatFault) → IsUnread (format_of l.rest) fault → IsUnread (format_of l.text) fault

abbrev pub decreases-loop-after : goal.decreases-loop-after
decreases-loop-after l = length l.rest
