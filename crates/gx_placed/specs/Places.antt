-- What placing given objects does, and what it answers.
use Rattle.std.specs.Prelude.{◌≡◌, ℕ, ◌++◌, List, map, Some, Result, Ok, Err, ⊤}
use Rattle.std.specs.List.{AllByRecursion, slice_get}
use Rattle.std.specs.declared.vec.Vec.{Vec}
use Rattle.gx_model.specs.declared.objects.Kind.{Kind}
use Rattle.gx_model.specs.Texts.{Bytes}
use Rattle.gx_model.specs.Histories.{Record}
use Rattle.gx_store.specs.Bodies.{bytes_of}
use Rattle.gx_offered.specs.declared.offered.OfferedObject.{OfferedObject}
use Rattle.gx_wide.specs.Placing.{Placed}
use Rattle.gx_placed.specs.Faults.{take_fault}
use Rattle.gx_placed.specs.Placed.{placed_all}
use Rattle.gx_placed.specs.declared.fault.ObjectFault.{ObjectFault}
use Rattle.gx_placed.specs.declared.fault.PlaceFault.{PlaceFault}
use Rattle.gx_placed.specs.declared.fault.PlaceFault.TheVariants.{Object, OutOfMemory}

-- a given object, as a record
abbrev pub shown_object : {A : Type 0} → OfferedObject A → Record
shown_object one = record { name = one.name.bytes; kind = one.kind; body = bytes_of one.body }

abbrev pub shown_given : {A : Type 0} → Vec (OfferedObject A) A → List Record
shown_given given = map shown_object given.items

-- each has the name that its kind and body have
abbrev pub AreNamed : (Kind → Bytes → Bytes) → List Record → Type 0
AreNamed names given = AllByRecursion (λ one. one.name ≡ names one.kind one.body) given

-- the first fault is that of the object at a place
abbrev pub IsAgainst : List Record → Placed → ℕ → ObjectFault → Type 0
IsAgainst given outcome place fault = (one : Record) × (slice_get given place ≡ Some one) × (outcome ≡ Err (take_fault fault one.name))

-- an answer by what is to come; want of memory tells nothing
abbrev pub Answers : {X : Type 0} → List Record → Placed → List Record → Result X PlaceFault → Type 0
Answers given outcome now (Ok x) = outcome ≡ Ok now
Answers given outcome now (Err OutOfMemory) = ⊤
Answers given outcome now (Err (Object place fault)) = IsAgainst given outcome place fault

-- all were placed, or it is told which was the first that couldn't be
abbrev pub Places : {X : Type 0} → List Record → List Record → List Record → Result X PlaceFault → Type 0
Places given held now result = Answers given (placed_all given held) now result

-- more stand behind
abbrev pub Extends : List Record → List Record → Type 0
Extends held now = (more : List Record) × (now ≡ held ++ more)
