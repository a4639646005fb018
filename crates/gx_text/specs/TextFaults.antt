-- The faults of texts among those of the model.
use Rattle.gx_model.specs.declared.faults.Fault.{Fault}
use Rattle.gx_model.specs.declared.faults.Fault.TheVariants as faults
use Rattle.gx_text.specs.declared.fault.TextFault.{TextFault}
use Rattle.gx_text.specs.declared.fault.TextFault.TheVariants.{OutOfMemory, BadPath, PathTooLong, BadIdent}

abbrev pub fault_of : TextFault → Fault
fault_of OutOfMemory = faults.OutOfMemory
fault_of BadPath = faults.BadPath
fault_of PathTooLong = faults.PathTooLong
fault_of BadIdent = faults.BadIdent
