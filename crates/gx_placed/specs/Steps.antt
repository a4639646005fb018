-- How the code keeps objects that wait and objects that were begun, and what its steps do.
use Rattle.std.specs.Prelude.{◌≡◌, ℕ, suc, true, false, List, [], ◌∷◌, ◌++◌, drop, length, map, set, take, Option, None, Some, Result, Ok, Err, ⊤}
use Rattle.std.specs.List.{AllByRecursion, slice_get}
use Rattle.std.specs.Option.{option_and_then, option_map}
use Rattle.std.specs.BTreeMap.{BTreeMap, get}
use Rattle.std.specs.declared.vec.Vec.{Vec}
use Rattle.gx_model.specs.declared.objects.Kind.{Kind}
use Rattle.gx_model.specs.Texts.{Bytes, byte_cmp}
use Rattle.gx_model.specs.Histories.{Record}
use Rattle.gx_model.specs.Records.Growth.{record_named, same_kind}
use Rattle.gx_model.specs.Records.RecordFaults.{are_links_held, is_bad_below, is_body, is_held}
use Rattle.gx_object.specs.declared.name.Name.{Name}
use Rattle.gx_links.specs.Links.{shown_link}
use Rattle.gx_links.specs.declared.links.Link.{Link}
use Rattle.gx_offered.specs.declared.offered.OfferedObject.{OfferedObject}
use Rattle.gx_repo.specs.declared.fault.AddFault.{AddFault}
use Rattle.gx_repo.specs.declared.fault.AddFault.TheVariants as add
use Rattle.gx_placed.specs.Machine.{Begun, IsLacking, IsMachine, begun_at, looked_at, object_at, place_in, resumed}
use Rattle.gx_placed.specs.Placed.{placed_within}
use Rattle.gx_placed.specs.Places.{Answers, shown_object}
use Rattle.gx_placed.specs.declared.fault.ObjectFault.TheVariants.{BadObject}
use Rattle.gx_placed.specs.declared.fault.PlaceFault.{PlaceFault}
use Rattle.gx_placed.specs.declared.fault.PlaceFault.TheVariants.{Object, OutOfMemory}
use Rattle.gx_placed.specs.declared.frame.Frame.{Frame}
use Rattle.gx_placed.specs.declared.placing.Found.{Found}
use Rattle.gx_placed.specs.declared.placing.Found.TheVariants.{Given, Held, Lacking}
use Rattle.gx_placed.specs.declared.waiting.Waiting.{Waiting}

-- ---- objects that wait

abbrev pub slots : {A : Type 0} → Waiting A → List (Option Record)
slots waiting = map (option_map shown_object) waiting.objects.items

-- the place of a name in a table
abbrev pub place_of : BTreeMap Name ℕ → Name → Option ℕ
place_of places called = get (λ x y. byte_cmp x.bytes y.bytes) places called

-- a table of the first place of each name
abbrev pub AreFirst : List Record → BTreeMap Name ℕ → Type 0
AreFirst given places = (called : Name) → place_of places called ≡ place_in given called.bytes

abbrev pub IsIndexed : {A : Type 0} → List Record → Waiting A → Type 0
IsIndexed given waiting = AreFirst given waiting.places

-- the object of a name, with its place
abbrev pub waiting_as : {A : Type 0} → Waiting A → Name → Option (ℕ × Record)
waiting_as waiting called = option_and_then (object_at (slots waiting)) (place_of waiting.places called)

abbrev pub shown_taken : {A : Type 0} → ℕ × OfferedObject A → ℕ × Record
shown_taken taken = (taken.0, shown_object taken.1)

-- the slots without what was taken
abbrev pub without : List (Option Record) → Option (ℕ × Record) → List (Option Record)
without slots None = slots
without slots (Some taken) = set slots taken.0 None

-- ---- objects that were begun

abbrev pub begun : {A : Type 0} → Frame A → Begun
begun frame = record {
  place = frame.place;
  new = shown_object frame.object;
  done = take frame.done (map shown_link frame.links.items);
  left = drop frame.done (map shown_link frame.links.items);
}

abbrev pub all_begun : {A : Type 0} → Vec (Frame A) A → List Begun
all_begun frames = map begun frames.items

-- an object is begun where its body is one of its kind
abbrev pub Begins : {A : Type 0} → ℕ → Record → Result (Frame A) PlaceFault → Type 0
Begins place new (Ok frame) = (is_body new.kind new.body ≡ true) × (begun frame ≡ begun_at place new)
Begins place new (Err OutOfMemory) = ⊤
Begins place new (Err (Object at fault)) = (is_body new.kind new.body ≡ false) × (at ≡ place) × (fault ≡ BadObject)

-- the next link is looked at, or none is left
abbrev pub Nexts : Begun → Begun → Option (Kind × Bytes) → Type 0
Nexts old new None = (old.left ≡ []) × (new ≡ old)
Nexts old new (Some link) = (left : List (Kind × Bytes)) × (old.left ≡ link ∷ left) × (new ≡ looked_at old link left)

-- what is told of an object at a place that isn't added, though all of its links are held
abbrev pub last_fault : ℕ → AddFault → PlaceFault
last_fault place add.OutOfMemory = OutOfMemory
last_fault place _ = Object place BadObject

-- an object that can stand last
pub record IsReady (names : Kind → Bytes → Bytes) (held : List Record) (new : Record) : Type 0 where
  pub free : record_named held new.name ≡ None
  pub is_one : is_body new.kind new.body ≡ true
  pub links : are_links_held held new.kind new.body ≡ true
  pub named : new.name ≡ names new.kind new.body

-- it stands last, or what is below it is bad
abbrev pub PutsLast : {X : Type 0} → List Record → List Record → ℕ → Record → Result X PlaceFault → Type 0
PutsLast held now place new (Ok x) = (is_bad_below held new.kind new.body ≡ false) × (now ≡ held ++ new ∷ [])
PutsLast held now place new (Err OutOfMemory) = ⊤
PutsLast held now place new (Err (Object at fault)) = (is_bad_below held new.kind new.body ≡ true) × (at ≡ place) × (fault ≡ BadObject)

-- ---- links

-- where what a link names is found
abbrev pub Finds : {A : Type 0} → List Record → Waiting A → Link → Found A → Type 0
Finds held waiting link Held = is_held held link.kind link.name.bytes ≡ true
Finds held waiting link (Given at one) = (record_named held link.name.bytes ≡ None) × (waiting_as waiting link.name ≡ Some (at, shown_object one)) × (same_kind one.kind link.kind ≡ true)
Finds held waiting link Lacking = IsLacking (record_named held link.name.bytes) (waiting_as waiting link.name) link.kind

-- ... is taken
abbrev pub Takes : {A : Type 0} → List (Option Record) → List (Option Record) → Found A → Type 0
Takes old new Held = new ≡ old
Takes old new (Given at one) = new ≡ set old at None
Takes old new Lacking = ⊤

-- ---- steps

module _ (names : Kind → Bytes → Bytes) (all : List Record) where
  -- what is known of the objects that wait and those that were begun
  abbrev pub Stands : {A : Type 0} → Waiting A → List Record → List Begun → Type 0
  Stands waiting held begun = IsIndexed all waiting × IsMachine names all (slots waiting) held begun

  -- it is still known after an answer
  abbrev pub StandsOn : {A X : Type 0} → Waiting A → List Record → List Begun → Result X PlaceFault → Type 0
  StandsOn waiting held begun (Ok x) = Stands waiting held begun
  StandsOn waiting held begun (Err fault) = ⊤

  -- how all go on
  abbrev pub GoesOn : {X : Type 0} → List Begun → List Begun → List Record → List Record → Result X PlaceFault → Type 0
  GoesOn old new held now (Ok x) = resumed (suc (length all)) all old held ≡ resumed (suc (length all)) all new now
  GoesOn {X = X} old new held now (Err fault) = Answers {X = X} all (resumed (suc (length all)) all old held) now (Err fault)

  -- a step from some that were begun to others
  abbrev pub Steps : {A X : Type 0} → Waiting A → Waiting A → List Record → List Record → List Begun → List Begun → Result X PlaceFault → Type 0
  Steps was waiting held now old new result = Stands was held old → StandsOn waiting now new result × GoesOn old new held now result

  -- the object at a place is placed, where those before it are held
  abbrev pub PlacesAt : {A X : Type 0} → Waiting A → Waiting A → List Record → List Record → ℕ → Result X PlaceFault → Type 0
  PlacesAt was waiting held now place result =
      (one : Record) → slice_get all place ≡ Some one → AllByRecursion (λ (before : Record). record_named held before.name ≡ Some before) (take place all) → Stands was held []
      → StandsOn waiting now [] result × Answers all (placed_within (suc (length all)) all held one) now result
