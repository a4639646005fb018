-- The faults of a store among those of the model.
use Rattle.gx_model.specs.declared.faults.Fault.{Fault}
use Rattle.gx_model.specs.declared.faults.Fault.TheVariants as model
use Rattle.gx_store.specs.declared.fault.StoreFault.{StoreFault}
use Rattle.gx_store.specs.declared.fault.StoreFault.TheVariants.{OutOfMemory, NameHeld}

abbrev pub fault_of : StoreFault → Fault
fault_of OutOfMemory = model.OutOfMemory
fault_of NameHeld = model.NameHeld
