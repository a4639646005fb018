-- What the calls answer that take what is offered.
use Rattle.std.specs.Prelude.{◌≡◌, ◌<◌, ℕ, Bool, true, false, List, length, Option, None, Some, Result, Ok, Err, IfOk, IsTrue, ⊤}
use Rattle.std.specs.List.{AllByRecursion, slice_get}
use Rattle.std.specs.Option.{option_map}
use Rattle.gx_model.specs.declared.objects.Kind.{Kind}
use Rattle.gx_model.specs.Texts.{Bytes}
use Rattle.gx_model.specs.Texts.RefNames.{is_ref_name}
use Rattle.gx_model.specs.Histories.{Records}
use Rattle.gx_text.specs.Devices.{Coming}
use Rattle.gx_stream.specs.Heard.{heard}
use Rattle.gx_wide.specs.ObjectsTexts.{Item, object_item, ref_item}
use Rattle.gx_repo.specs.Repositories.{Repository}
use Rattle.gx_object.specs.declared.name.Name.{Name}
use Rattle.gx_placed.specs.declared.fault.ObjectFault.{ObjectFault}
use Rattle.gx_placed.specs.declared.fault.ObjectFault.TheVariants as object
use Rattle.gx_placed.specs.declared.fault.PlaceFault.{PlaceFault}
use Rattle.gx_placed.specs.declared.fault.PlaceFault.TheVariants as place
use Rattle.gx_taken.specs.Parts.{shown_labels}
use Rattle.gx_taken.specs.Refusals.{shown_refused}
use Rattle.gx_wide.specs.Placing as placing
use Rattle.gx_taken.specs.Taking.{Refusal, number_named, text_taken, untaken}
use Rattle.gx_taken.specs.declared.fault.Refused.{Refused}
use Rattle.gx_taken.specs.declared.fault.Refused.TheVariants as refused
use Rattle.gx_taken.specs.declared.fault.TakeFault.{TakeFault}
use Rattle.gx_taken.specs.declared.fault.TakeFault.TheVariants as fault
use Rattle.gx_taken.specs.declared.parts.Label.{Label}

-- the name of a ref is one, and an object has its own
abbrev pub IsGoodItem : (Kind → Bytes → Bytes) → Item → Type 0
IsGoodItem name (ref_item called ref) = IsTrue (is_ref_name ref)
IsGoodItem name (object_item of_kind called body) = called ≡ name of_kind body

abbrev pub AreGoodItems : (Kind → Bytes → Bytes) → List Item → Type 0
AreGoodItems name items = AllByRecursion (IsGoodItem name) items

module _ {N A : Type 0} where
  -- the repository is left that this is, or the item is refused that this tells
  abbrev pub IsTaken : Result Records (ℕ × Refusal) → Result (Repository N) (TakeFault A) → Type 0
  IsTaken given (Ok left) = given ≡ Ok left.1
  IsTaken given (Err fault.OutOfMemory) = ⊤
  IsTaken given (Err fault.ReadFailed) = ⊥
  IsTaken given (Err (fault.Item number kind)) = given ≡ Err (number, shown_refused kind)

  module _ (name : Kind → Bytes → Bytes) (force : Bool) (old : Records) where
    -- the same of what comes, which ended, or it failed
    abbrev pub TakesAll : Coming → Result (Repository N) (TakeFault A) → Type 0
    TakesAll coming (Ok left) = (coming.fails ≡ false) × (text_taken name force old coming.bytes ≡ Ok left.1)
    TakesAll coming (Err fault.OutOfMemory) = ⊤
    TakesAll coming (Err fault.ReadFailed) = coming.fails ≡ true
    TakesAll coming (Err (fault.Item number kind)) = (coming.fails ≡ false) × (text_taken name force old coming.bytes ≡ Err (number, shown_refused kind))

    -- the same of a source. Where it tells nothing, some bytes came
    abbrev pub TakesText : Option Coming → Result (Repository N) (TakeFault A) → Type 0
    TakesText None result = (coming : Coming) × TakesAll coming result
    TakesText (Some coming) result = TakesAll (heard coming) result

-- none of the refs is refused, or this one is the first
abbrev pub ChecksRefs : {A : Type 0} → Option (ℕ × Refusal) → Result (Unit {0}) (TakeFault A) → Type 0
ChecksRefs given (Ok _) = given ≡ None
ChecksRefs given (Err fault.OutOfMemory) = ⊤
ChecksRefs given (Err fault.ReadFailed) = ⊥
ChecksRefs given (Err (fault.Item number kind)) = given ≡ Some (number, shown_refused kind)

-- this is against a ref, or nothing
abbrev pub TellsAgainst : {A E : Type 0} → Option placing.TakeFault → Result (Option (Refused A)) E → Type 0
TellsAgainst given result = IfOk result (λ against. option_map shown_refused against ≡ option_map untaken given)

-- the refusal of an object of this name
abbrev pub object_refused : {A : Type 0} → Name → ObjectFault → Refused A
object_refused name object.BadObject = refused.BadObject name
object_refused name object.NameHeld = refused.NameHeld name
object_refused name (object.Dangling link) = refused.Dangling name link

-- the same of the object at a place, with the number of the first item that gives it
abbrev pub IsUnplaced : {A : Type 0} → List Label → ℕ → ObjectFault → TakeFault A → Type 0
IsUnplaced labels at against told =
    (label : Label) → slice_get labels at ≡ Some label → told ≡ fault.Item (number_named (shown_labels labels) label.name.bytes) (object_refused label.name against)

-- two commits by their names
abbrev pub shown_commits : Name × Name → Bytes × Bytes
shown_commits commits = (commits.0.bytes, commits.1.bytes)

-- a fault is of an object that has a label
abbrev pub IsWithin : List Label → PlaceFault → Type 0
IsWithin labels place.OutOfMemory = ⊤
IsWithin labels (place.Object at against) = at < length labels

-- what is answered where objects aren't placed
abbrev pub TellsUnplaced : {A : Type 0} → List Label → PlaceFault → TakeFault A → Type 0
TellsUnplaced labels place.OutOfMemory told = told ≡ fault.OutOfMemory
TellsUnplaced labels (place.Object at against) told = IsUnplaced labels at against told

-- these records and refs are what is taken, or an item is refused
abbrev pub IsTakenBy : {A : Type 0} → Result Records (ℕ × Refusal) → Records → Result (Unit {0}) (TakeFault A) → Type 0
IsTakenBy given now (Ok _) = given ≡ Ok now
IsTakenBy given now (Err fault.OutOfMemory) = ⊤
IsTakenBy given now (Err fault.ReadFailed) = ⊥
IsTakenBy given now (Err (fault.Item number kind)) = given ≡ Err (number, shown_refused kind)
