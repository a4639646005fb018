-- Why a commit's files aren't loaded.
use Rattle.std.proofs.Common.{◌≡◌, refl, Ok}
use Rattle.gx_model.specs.Faults.{IsFaultOf}
use Rattle.gx_tree.specs.Faults as tree_faults
use Rattle.gx_tree.specs.declared.fault.TreeFault.{TreeFault}
use Rattle.gx_tree.specs.declared.fault.TreeFault.TheVariants as tree
use Rattle.gx_model.specs.declared.faults.Fault.TheVariants.{OutOfMemory}
use Rattle.gx_tree.specs.Faults.{fault_of as of_tree}

-- a load or a duplicate is refused for want of memory alone
pub load_fault : {X : Type 0} (f : TreeFault) (g : X) → IsFaultOf (tree_faults.fault_of f) (Ok g) → of_tree f ≡ OutOfMemory
load_fault tree.OutOfMemory g h = refl
load_fault tree.NoSuchPath g h = absurd (cc h)
load_fault tree.RootNotTree g h = absurd (cc h)
load_fault tree.PathTooLong g h = absurd (cc h)
load_fault tree.NameHeld g h = absurd (cc h)
