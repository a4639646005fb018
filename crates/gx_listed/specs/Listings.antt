-- Objects that are listed in an order: what is known of them before a body is read.
use Rattle.std.specs.Prelude.{◌≡◌, ◌≢◌, ℕ, ◌++◌, Bool, true, false, List, [], ◌∷◌, length, map, slice_get, IfSome, Option, Some, None}
use Rattle.std.specs.List.{position}
use Rattle.gx_model.specs.declared.objects.Kind.{Kind}
use Rattle.gx_model.specs.Histories.{Record, Records}
use Rattle.gx_model.specs.Texts.{Bytes, same_bytes}
use Rattle.gx_object.specs.declared.name.Name.{Name}
use Rattle.gx_listed.specs.declared.listing.Standing.{Standing}

-- a name, and what is known of its object
abbrev pub Listed : Type 0
Listed = Name × Standing

-- what is known of an object wherever it stands: its name, its kind, and how long its body is
pub record Head : Type 0 where
  pub name : Bytes
  pub kind : Kind
  pub size : ℕ

abbrev pub head_of : Record → Head
head_of held = record { name = held.name; kind = held.kind; size = length held.body }

abbrev pub shown_head : Listed → Head
shown_head one = record { name = one.0.bytes; kind = one.1.kind; size = one.1.length }

-- these are what is known of records
abbrev pub HaveHeads : List Listed → List Record → Type 0
HaveHeads listed records = map shown_head listed ≡ map head_of records

-- the number of the first object of a name
abbrev pub number_named : List Listed → Bytes → Option ℕ
number_named listed called = position (λ one. same_bytes called one.0.bytes) listed

-- an object is listed last, or its name is listed already
abbrev pub Pushes : List Listed → List Listed → Listed → Bool → Type 0
Pushes old new one true = (new ≡ old ++ one ∷ []) × (number_named old one.0.bytes ≡ None)
Pushes old new one false = (new ≡ old) × (number_named old one.0.bytes ≢ None)

-- all objects of a repository are listed, in their order, with where they stand
pub record ListsAll (stands : ℕ → ℕ) (r : Records) (listed : List Listed) : Type 0 where
  pub heads : HaveHeads listed r.records
  pub places : (number : ℕ) (one : Listed) → slice_get listed number ≡ Some one → one.1.place ≡ stands number

-- of what tells no repository, nothing is claimed
abbrev pub ListsIfTold : Option Records → (ℕ → ℕ) → List Listed → Type 0
ListsIfTold told stands listed = IfSome told (λ r. ListsAll stands r listed)
