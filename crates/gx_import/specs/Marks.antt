-- Marks as a map from numbers to objects.
use Rattle.std.specs.Prelude.{◌≡◌, ℕ, nat_eq, if◌then◌else◌, Option, Some, None, Result, Ok, Err}
use Rattle.std.specs.Ordering.{nat_cmp}
use Rattle.std.specs.BTreeMap.{get}
use Rattle.gx_import.specs.declared.object.Object.{Object}
use Rattle.gx_import.specs.declared.marks.Marks.{Marks}
use Rattle.gx_model.specs.declared.faults.Fault.{Fault}
use Rattle.gx_model.specs.declared.faults.Fault.TheVariants.{UnknownMark}

-- the object of a mark
abbrev pub object_at : {A : Type 0} → Marks A → ℕ → Option Object
object_at marks number = get nat_cmp marks.objects number

-- an object, or UnknownMark where there is none
abbrev pub object_or_fault : Option Object → Result Object Fault
object_or_fault (Some object) = Ok object
object_or_fault None = Err UnknownMark

-- the object of a mark after this one was set, where one was asked for
abbrev pub marked_object : Option ℕ → Object → ℕ → Option Object → Option Object
marked_object None object number old = old
marked_object (Some mark) object number old = if nat_eq number mark then Some object else old

-- a mark was set, where one was asked for, and the others stay
abbrev pub SetsMark : {A : Type 0} → Option ℕ → Object → Marks A → Marks A → Type 0
SetsMark mark object old new = (number : ℕ) → object_at new number ≡ marked_object mark object number (object_at old number)
