-- The faults of a store, as those of a tree that is written into it.
use Rattle.gx_store.specs.declared.fault.StoreFault.{StoreFault}
use Rattle.gx_store.specs.declared.fault.StoreFault.TheVariants as store
use Rattle.gx_tree.specs.declared.fault.TreeFault.{TreeFault}
use Rattle.gx_tree.specs.declared.fault.TreeFault.TheVariants.{OutOfMemory, NameHeld}

abbrev pub tree_fault : StoreFault → TreeFault
tree_fault store.OutOfMemory = OutOfMemory
tree_fault store.NameHeld = NameHeld
