-- The faults of trees, as those of the model.
use Rattle.std.specs.Prelude.{◌≡◌, Result, Ok, Err, IsErrAnd, ⊤}
use Rattle.gx_model.specs.declared.faults.Fault.{Fault}
use Rattle.gx_model.specs.declared.faults.Fault.TheVariants as model
use Rattle.gx_tree.specs.declared.fault.TreeFault.{TreeFault}
use Rattle.gx_tree.specs.declared.fault.TreeFault.TheVariants.{OutOfMemory, NoSuchPath, RootNotTree, PathTooLong, NameHeld}

abbrev pub fault_of : TreeFault → Fault
fault_of OutOfMemory = model.OutOfMemory
fault_of NoSuchPath = model.NoSuchPath
fault_of RootNotTree = model.RootNotTree
fault_of PathTooLong = model.PathTooLong
fault_of NameHeld = model.NameHeld

-- what the definition refuses is refused for its cause, whatever memory there is
abbrev pub Refuses : {X Y : Type 0} → Result X Fault → Result Y TreeFault → Type 0
Refuses (Ok x) answer = ⊤
Refuses (Err f) answer = IsErrAnd answer (λ fault. fault_of fault ≡ f)
