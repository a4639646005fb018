-- Objects on their way, each above one that waits for it, and how the rest is to go on from there.
use Rattle.std.specs.Prelude.{◌≡◌, ◌⊎◌, ◌+◌, ◌≤◌, ℕ, zero, suc, true, false, if◌then◌else◌, List, [], ◌∷◌, ◌++◌, length, Option, None, Some, Ok, Err, ⊤}
use Rattle.std.specs.List.{AllByRecursion, slice_get}
use Rattle.std.specs.Option.{option_map}
use Rattle.gx_model.specs.declared.objects.Kind.{Kind}
use Rattle.gx_model.specs.Texts.{Bytes, same_bytes}
use Rattle.gx_model.specs.Faults.{◌>>=◌}
use Rattle.gx_model.specs.Histories.{Record}
use Rattle.gx_model.specs.Records.Growth.{record_named, same_kind}
use Rattle.gx_model.specs.Records.RecordFaults.{is_body, is_held}
use Rattle.gx_wide.specs.Placing.{Dangling, Placed, links_placed, put_last, wide_links}
use Rattle.gx_placed.specs.Placed.{others, placed_within}

-- ---- objects that wait

-- the place of the first object of a name
abbrev pub place_in : List Record → Bytes → Option ℕ
place_in [] called = None
place_in (one ∷ given) called = if same_bytes called one.name then Some zero else option_map suc (place_in given called)

-- what waits at a place
abbrev pub slot_at : List (Option Record) → ℕ → Option Record
slot_at [] place = None
slot_at (slot ∷ slots) zero = slot
slot_at (slot ∷ slots) (suc place) = slot_at slots place

-- the object at a place, with the place
abbrev pub object_at : List (Option Record) → ℕ → Option (ℕ × Record)
object_at slots place = option_map (λ one. (place, one)) (slot_at slots place)

-- the first object of a name, where it waits
abbrev pub waits : List Record → List (Option Record) → Bytes → Option Record
waits [] slots called = None
waits (one ∷ given) [] called = None
waits (one ∷ given) (slot ∷ slots) called = if same_bytes called one.name then slot else waits given slots called

-- what is found by a name is of another kind, if anything is
abbrev pub IsLacking : Option Record → Option (ℕ × Record) → Kind → Type 0
IsLacking (Some known) waiting of_kind = same_kind known.kind of_kind ≡ false
IsLacking None (Some waiting) of_kind = same_kind waiting.1.kind of_kind ≡ false
IsLacking None None of_kind = ⊤

-- a number for each object that waits
abbrev pub weight_of : (Record → ℕ) → Option Record → ℕ
weight_of number None = 0
weight_of number (Some one) = number one

abbrev pub weight : (Record → ℕ) → List (Option Record) → ℕ
weight number [] = 0
weight number (slot ∷ slots) = weight_of number slot + weight number slots

-- how many wait
abbrev pub count : List (Option Record) → ℕ
count slots = weight (λ _. 1) slots

-- ---- objects that were begun

-- an object at its place, and what it names: what was looked at, and what is left
pub record Begun : Type 0 where
  pub place : ℕ
  pub new : Record
  pub done : List (Kind × Bytes)
  pub left : List (Kind × Bytes)

-- an object none of whose links was looked at
abbrev pub begun_at : ℕ → Record → Begun
begun_at place new = record { place = place; new = new; done = []; left = wide_links new.kind new.body }

-- with a link looked at, and these left
abbrev pub looked_at : Begun → Kind × Bytes → List (Kind × Bytes) → Begun
looked_at one link left = record { place = one.place; new = one.new; done = one.done ++ link ∷ []; left = left }

-- how much is to be done for objects that wait, and for those that were begun
abbrev pub work : Record → ℕ
work new = 1 + length (wide_links new.kind new.body)

abbrev pub work_begun : List Begun → ℕ
work_begun [] = 0
work_begun (one ∷ begun) = 1 + length one.left + work_begun begun

abbrev pub work_left : List (Option Record) → List Begun → ℕ
work_left slots begun = weight work slots + work_begun begun

-- the given objects beside those that were begun
abbrev pub beside : List Record → List Begun → List Record
beside given [] = given
beside given (one ∷ above) = beside (others one.new.name given) above

-- how an object goes on
abbrev pub finished : ℕ → List Record → Begun → List Record → Placed
finished n given one now = links_placed (placed_within n given) given one.new.name one.left now >>= put_last one.new

-- how all go on, the last first
abbrev pub resumed : ℕ → List Record → List Begun → List Record → Placed
resumed n given [] held = Ok held
resumed zero given (one ∷ above) held = Err (Dangling one.new.name one.new.name)
resumed (suc n) given (one ∷ above) held = resumed n (others one.new.name given) above held >>= finished n (others one.new.name given) one

-- an object is among those that were begun
abbrev pub IsAmong : List Begun → Record → Type 0
IsAmong [] new = ⊥
IsAmong (one ∷ above) new = (one.new ≡ new) ⊎ IsAmong above new

-- an object of this kind and name is
abbrev pub IsUnderWay : List Begun → Kind × Bytes → Type 0
IsUnderWay [] link = ⊥
IsUnderWay (one ∷ above) link = ((one.new.kind ≡ link.0) × (one.new.name ≡ link.1)) ⊎ IsUnderWay above link

-- an object that doesn't wait: it is held, or was begun
abbrev pub IsCovered : List Record → List Begun → Record → Type 0
IsCovered held begun new = (record_named held new.name ≡ Some new) ⊎ IsAmong begun new

abbrev pub IsSlot : List Record → List Begun → Record → Option Record → Type 0
IsSlot held begun new None = IsCovered held begun new
IsSlot held begun new (Some one) = one ≡ new

-- each given object waits at its place, or it doesn't wait
abbrev pub AreSlots : List Record → List Begun → List Record → List (Option Record) → Type 0
AreSlots held begun [] [] = ⊤
AreSlots held begun (new ∷ given) (slot ∷ slots) = IsSlot held begun new slot × AreSlots held begun given slots
AreSlots held begun _ _ = ⊥

-- a link that was looked at: it is held, or what it names was begun above
abbrev pub IsLooked : List Record → List Begun → Kind × Bytes → Type 0
IsLooked held above link = (is_held held link.0 link.1 ≡ true) ⊎ IsUnderWay above link

module _ (names : Kind → Bytes → Bytes) (all : List Record) where
  -- an object that was begun, beside these objects, with others above it
  pub record IsBegun (given held : List Record) (one : Begun) (above : List Begun) : Type 0 where
    pub stands : slice_get all one.place ≡ Some one.new
    pub found : record_named given one.new.name ≡ Some one.new
    pub free : record_named held one.new.name ≡ None
    pub is_one : is_body one.new.kind one.new.body ≡ true
    pub named : one.new.name ≡ names one.new.kind one.new.body
    pub links : one.done ++ one.left ≡ wide_links one.new.kind one.new.body
    pub looked : AllByRecursion (IsLooked held above) one.done

  abbrev pub AreBegun : List Record → List Record → List Begun → Type 0
  AreBegun given held [] = ⊤
  AreBegun given held (one ∷ above) = IsBegun given held one above × AreBegun (others one.new.name given) held above

  -- all that is known while objects are placed
  pub record IsMachine (slots : List (Option Record)) (held : List Record) (begun : List Begun) : Type 0 where
    pub named : AllByRecursion (λ (one : Record). one.name ≡ names one.kind one.body) all
    pub waiting : (called : Bytes) → record_named held called ≡ None → waits all slots called ≡ record_named (beside all begun) called
    pub covered : AreSlots held begun all slots
    pub room : length begun + count slots ≤ length all
    pub stack : AreBegun all held begun
