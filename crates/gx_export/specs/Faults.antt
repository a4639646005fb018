-- The faults of an export, and what they print.
use Rattle.std.specs.Prelude.{codes}
use Rattle.gx_model.specs.Texts.{Bytes}
use Rattle.gx_rev.specs.RevFaults as rev
use Rattle.gx_export.specs.declared.fault.ExportFault.{ExportFault}
use Rattle.gx_export.specs.declared.fault.ExportFault.TheVariants.{OutOfMemory, Unsupported, WriteFailed}
use Rattle.gx_export.specs.declared.fault.RangeFault.{RangeFault}
use Rattle.gx_export.specs.declared.fault.RangeFault.TheVariants.{Export, Walk}

-- the word that a fault prints
abbrev pub word : ExportFault → Bytes
word OutOfMemory = codes "OutOfMemory"
word (WriteFailed written) = codes "WriteFailed"
word Unsupported = codes "Unsupported"

-- what an export of a range prints, where a word is refused or the export stops
abbrev pub refusal : RangeFault → Bytes
refusal (Walk fault) = rev.refusal fault
refusal (Export fault) = word fault
