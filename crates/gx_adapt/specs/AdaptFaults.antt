-- The faults of adapting a stream among those of the model.
use Rattle.gx_model.specs.declared.faults.Fault.{Fault}
use Rattle.gx_model.specs.declared.faults.Fault.TheVariants as model
use Rattle.gx_adapt.specs.declared.fault.AdaptFault.{AdaptFault}
use Rattle.gx_adapt.specs.declared.fault.AdaptFault.TheVariants.{OutOfMemory, ReadFailed, WriteFailed, TruncatedData, BadNumber}

abbrev pub fault_of : AdaptFault → Fault
fault_of OutOfMemory = model.OutOfMemory
fault_of ReadFailed = model.ReadFailed
fault_of WriteFailed = model.WriteFailed
fault_of TruncatedData = model.TruncatedData
fault_of BadNumber = model.BadNumber
