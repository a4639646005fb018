-- Which refs a list of changes gives, or why it is refused, as a fault of the model.
use Rattle.std.specs.Prelude.{◌≡◌, false, ℕ, List, map, Some, None, Result, Err, ⊤}
use Rattle.std.specs.FinMap.Entries.{put}
use Rattle.std.specs.declared.vec.Vec.{Vec}
use Rattle.gx_model.specs.declared.faults.Fault.{Fault}
use Rattle.gx_model.specs.declared.faults.Fault.TheVariants as model
use Rattle.gx_model.specs.Histories.{Record, Records}
use Rattle.gx_model.specs.Records.Publishing.{Change, change_fault, changes_fault}
use Rattle.gx_model.specs.Texts.{Bytes, byte_cmp}
use Rattle.gx_object.specs.declared.name.Name.{Name}
use Rattle.gx_repo.specs.Refs.{are_held, ref_of, shown_update}
use Rattle.gx_repo.specs.declared.fault.PublishFault.{PublishFault}
use Rattle.gx_repo.specs.declared.fault.PublishFault.TheVariants.{OutOfMemory, BadRefName, UnknownObject, WrongKind}
use Rattle.gx_repo.specs.declared.publishing.RefChange.{RefChange}

-- a refusal to publish, as a fault of the model
abbrev pub fault_of : PublishFault → Fault
fault_of OutOfMemory = model.OutOfMemory
fault_of BadRefName = model.BadRefName
fault_of UnknownObject = model.UnknownObject
fault_of WrongKind = model.WrongKind

-- this is against a change
abbrev pub IsAgainstChange : List Record → RefChange → PublishFault → Type 0
IsAgainstChange records change fault = change_fault records (shown_update change) ≡ Some (fault_of fault)

-- this is against the first of these changes that is refused
abbrev pub IsAgainstFirst : List Record → List RefChange → PublishFault → Type 0
IsAgainstFirst records changes fault = changes_fault records (map shown_update changes) ≡ Some (fault_of fault)

-- want of memory hides no change that is refused, and comes only where a ref is to be set that isn't held
abbrev pub HidesNoRefusal : Records → List Change → Result (Unit {0}) PublishFault → Type 0
HidesNoRefusal repository changes (Err OutOfMemory) = (changes_fault repository.records changes ≡ None) × (are_held repository.refs changes ≡ false)
HidesNoRefusal repository changes answer = ⊤

-- besides what was entered, an object is under a ref's name, in place of one that was
abbrev pub Enters : {A : Type 0} → List (Vec ℕ A × Name) → List (Vec ℕ A × Name) → Bytes → Name → Type 0
Enters old new name object = map ref_of new ≡ put byte_cmp name object.bytes (map ref_of old)
