-- What comes of a record of which nothing is known. Source: Pro Git, "Git Objects".
use Rattle.std.specs.Prelude.{◌≡◌, ◌⊎◌, false, true, List, [], ◌∷◌, ◌++◌, Some, None, Result, Ok, Err, ⊤}
use Rattle.gx_model.specs.declared.objects.Kind.{Kind}
use Rattle.gx_model.specs.declared.objects.Kind.TheVariants as kind
use Rattle.gx_model.specs.declared.store_faults.FileFault.{FileFault}
use Rattle.gx_model.specs.declared.store_faults.FileFault.TheVariants as model
use Rattle.gx_model.specs.Texts.{Bytes}
use Rattle.gx_model.specs.Histories.{Record}
use Rattle.gx_model.specs.Records.Growth.{record_named}
use Rattle.gx_model.specs.Records.RecordFaults.{are_links_held, has_empty_directory, is_body, record_fault}
use Rattle.gx_object.specs.declared.name.Name.{Name}
use Rattle.gx_repo.specs.declared.fault.AddFault.{AddFault}
use Rattle.gx_repo.specs.declared.fault.AddFault.TheVariants.{OutOfMemory, BadObject, Dangling, DuplicateObject}

-- a refusal to add a record, as a fault of the model
abbrev pub add_fault : AddFault → FileFault
add_fault OutOfMemory = model.OutOfMemory
add_fault BadObject = model.BadObject
add_fault Dangling = model.Dangling
add_fault DuplicateObject = model.DuplicateObject

-- the record stands last, where nothing is against it; otherwise this is against it, or memory ran out, and nothing is added
abbrev pub AddsRecord : List Record → List Record → Record → Result Name AddFault → Type 0
AddsRecord old new added (Ok name) = (name.bytes ≡ added.name) × (record_fault old added ≡ None) × (new ≡ old ++ added ∷ [])
AddsRecord old new added (Err OutOfMemory) = new ≡ old
AddsRecord old new added (Err fault) = (record_fault old added ≡ Some (add_fault fault)) × (new ≡ old)

-- a canonical tree whose links are held
abbrev pub IsLinkedTree : List Record → Kind → Bytes → Type 0
IsLinkedTree records of_kind body = (of_kind ≡ kind.Tree) × (is_body of_kind body ≡ true) × (are_links_held records of_kind body ≡ true)

-- this record is held, and no other under its name
abbrev pub IsRecordHeld : List Record → Record → Type 0
IsRecordHeld records added = record_named records added.name ≡ Some added

-- a canonical tree whose links are held, none of which has no entries, and which isn't held itself
abbrev pub IsNewTree : List Record → Record → Type 0
IsNewTree records added =
    IsLinkedTree records added.kind added.body
    × (has_empty_directory records added.body ≡ false)
    × (IsRecordHeld records added → ⊥)

-- want of memory hides nothing that is against a record; but of a tree that isn't held it may hide that a path below it is too
-- long, or that another object has its name
abbrev pub HidesNoFaultOf : List Record → Record → Result Name AddFault → Type 0
HidesNoFaultOf records added (Err OutOfMemory) = (record_fault records added ≡ None) ⊎ IsNewTree records added
HidesNoFaultOf records added answer = ⊤

-- this is against a record, or memory ran out, which hides no more than that
abbrev pub MayRefuseRecord : List Record → Record → AddFault → Type 0
MayRefuseRecord records added OutOfMemory = IsNewTree records added
MayRefuseRecord records added fault = record_fault records added ≡ Some (add_fault fault)
