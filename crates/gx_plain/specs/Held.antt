-- What is known of the records that were read, while no body of them is held: it is enough to tell what is against the next one.
-- Source: Pro Git, "Git Objects".
use Rattle.std.specs.Prelude.{◌≡◌, ◌⊎◌, ℕ, true, false, List, [], Option, Some, None}
use Rattle.gx_model.specs.declared.objects.Kind.{Kind}
use Rattle.gx_model.specs.declared.store_faults.FileFault.{FileFault}
use Rattle.gx_model.specs.Texts.{Bytes}
use Rattle.gx_model.specs.Histories.{Record}
use Rattle.gx_model.specs.Objects.{Entry, IsNamer}
use Rattle.gx_model.specs.Records.RecordFaults.{content_fault, is_entry_held, is_held}
use Rattle.gx_model.specs.Records.Sound.{IsSound}
use Rattle.gx_store.specs.Stores.{place_named}
use Rattle.gx_repo.specs.Checking.{entry_room}
use Rattle.gx_repo.specs.Repositories.{held_in}
use Rattle.gx_repo.specs.Rooms.{room_below, rooms_of}
use Rattle.gx_listed.specs.Listings.{HaveHeads, Listed}

-- these are listed of sound records, with their rooms
pub record IsHeld (name : Kind → Bytes → Bytes) (listed : List Listed) (rooms : List ℕ) (records : List Record) : Type 0 where
  pub namer : IsNamer name
  pub heads : HaveHeads listed records
  pub rooms_are : rooms ≡ rooms_of records
  pub sound : IsSound name (held_in records [])

-- they are those of some records
abbrev pub AreHeld : List Listed → List ℕ → Type 0
AreHeld listed rooms = (name : Kind → Bytes → Bytes) × (records : List Record) × IsHeld name listed rooms records

module _ (listed : List Listed) where
  -- this is the number of the object of a kind and a name
  abbrev pub FindsHeld : Kind → Bytes → Option ℕ → Type 0
  FindsHeld of_kind called (Some number) = (records : List Record) → HaveHeads listed records → (Some number ≡ place_named records called) × (is_held records of_kind called ≡ true)
  FindsHeld of_kind called None = (records : List Record) → HaveHeads listed records → is_held records of_kind called ≡ false

  module _ (rooms : List ℕ) where
    -- what an entry names is held, and this is its room; or it isn't held, or is a tree without entries
    abbrev pub LooksAtEntry : Entry → Option ℕ → Type 0
    LooksAtEntry e (Some room) =
        (name : Kind → Bytes → Bytes) (records : List Record) → IsHeld name listed rooms records → (is_entry_held records e.mode e.name ≡ true) × (Some room ≡ entry_room records e)
    LooksAtEntry e None =
        (name : Kind → Bytes → Bytes) (records : List Record) → IsHeld name listed rooms records → (is_entry_held records e.mode e.name ≡ false) ⊎ (None ≡ entry_room records e)

    -- nothing is against a body, and this is its room; or something is
    abbrev pub ChecksBody : Kind → Bytes → Option ℕ → Type 0
    ChecksBody of_kind body (Some room) =
        (name : Kind → Bytes → Bytes) (records : List Record) → IsHeld name listed rooms records → (content_fault records of_kind body ≡ None) × (room ≡ room_below records of_kind body)
    ChecksBody of_kind body None =
        (name : Kind → Bytes → Bytes) (records : List Record) → IsHeld name listed rooms records → (why : FileFault) × (content_fault records of_kind body ≡ Some why)
