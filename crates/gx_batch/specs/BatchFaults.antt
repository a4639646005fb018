-- What the faults of a batch print.
use Rattle.std.specs.Prelude.{codes}
use Rattle.gx_model.specs.Texts.{Bytes}
use Rattle.gx_batch.specs.declared.fault.BatchFault.{BatchFault}
use Rattle.gx_batch.specs.declared.fault.BatchFault.TheVariants.{OutOfMemory, ReadFailed, WriteFailed}
use Rattle.gx_batch.specs.declared.fault.FormatFault.{FormatFault}
use Rattle.gx_batch.specs.declared.fault.FormatFault.TheVariants as format

abbrev pub refusal : BatchFault → Bytes
refusal OutOfMemory = codes "out of memory"
refusal ReadFailed = codes "read failed"
refusal WriteFailed = codes "write failed"

abbrev pub format_refusal : FormatFault → Bytes
format_refusal format.OutOfMemory = codes "out of memory"
format_refusal format.BadFormat = codes "bad format"
