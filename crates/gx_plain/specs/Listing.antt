-- The records of a plain text, listed as they are read.
use Rattle.std.specs.Prelude.{◌≡◌, ℕ, ◌+◌, ◌≤◌, ◌++◌, List, [], ◌∷◌, length, map, drop, IfSome, Option, Some, None, Result, Ok, Err, ⊤}
use Rattle.gx_model.specs.declared.objects.Kind.{Kind}
use Rattle.gx_model.specs.declared.store_versions.Version.{Version}
use Rattle.gx_model.specs.Texts.{Bytes}
use Rattle.gx_model.specs.Histories.{Record}
use Rattle.gx_model.specs.Records.Sound.{IsSound}
use Rattle.gx_model.specs.Stores.StoreReading.{next_record, next_records}
use Rattle.gx_model.specs.Stores.StoreText.{stored_record}
use Rattle.gx_repo.specs.Repositories.{held_in}
use Rattle.gx_listed.specs.Listings.{HaveHeads, Listed}
use Rattle.gx_objects.specs.declared.fault.LookFault.{LookFault}
use Rattle.gx_plain.specs.Held.{IsHeld}
use Rattle.gx_plain.specs.Reading.{RefusesWith}
use Rattle.gx_plain.specs.Records.{AreStored, IsStoredAt}
use Rattle.gx_plain.specs.declared.start.Start.{Start}

-- where records stand one behind the other, from a place on
abbrev pub places_from : Version → ℕ → List Record → List ℕ
places_from v place [] = []
places_from v place (r ∷ rs) = place ∷ places_from v (place + length (stored_record v r)) rs

-- where objects that are listed stand
abbrev pub places_listed : List Listed → List ℕ
places_listed listed = map (λ one. one.1.place) listed

module _ (name : Kind → Bytes → Bytes) where
  -- ---- one record

  module _ (v : Version) where
    -- a record was read behind these, and where it ends
    pub record IsNext (text : Bytes) (records : List Record) (place : ℕ) (held : Record) (behind : ℕ) : Type 0 where
      pub read : next_record name v records (drop place text) ≡ Ok (records ++ held ∷ [], drop behind text)
      pub ends : behind ≡ place + length (stored_record v held)
      pub within : behind ≤ length text
      pub stored : IsStoredAt name v text place held.name held

    -- one object more is listed, with its room, and of what tells a text it is that of the next record
    pub record IsOneMore (told : Option Bytes) (place : ℕ) (old new : List Listed) (rooms : List ℕ) (records : List Record) (behind : ℕ) : Type 0 where
      pub held : Record
      pub more : IsHeld name new rooms (records ++ held ∷ [])
      pub one : Listed
      pub last : new ≡ old ++ one ∷ []
      pub stands : one.1.place ≡ place
      pub next : IfSome told (λ text. IsNext text records place held behind)

    -- the next record was added, or why there is none to add
    abbrev pub AddsNext : Option Bytes → ℕ → List Listed → List ℕ → List Listed → List ℕ → Result ℕ LookFault → Type 0
    AddsNext told place old old_rooms new new_rooms (Ok behind) = (records : List Record) → IsHeld name old old_rooms records → IsOneMore told place old new new_rooms records behind
    AddsNext told place old old_rooms new new_rooms (Err fault) =
        (records : List Record) → IsHeld name old old_rooms records → IfSome told (λ text. RefusesWith fault (next_record name v records (drop place text)))

  -- ---- all records

  -- these are all records behind the front of a text, and where they end
  pub record AreListed (text : Bytes) (start : Start) (listed : List Listed) (behind : ℕ) (records : List Record) : Type 0 where
    pub heads : HaveHeads listed records
    pub sound : IsSound name (held_in records [])
    pub read : next_records name start.version start.count [] (drop start.place text) ≡ Ok (records, drop behind text)
    pub places : places_listed listed ≡ places_from start.version start.place records
    pub stand : AreStored name start.version text listed records

  -- all records are listed, or why they aren't; of what tells no text, nothing is claimed
  abbrev pub ListsAllNext : Option Bytes → Start → Result (List Listed × ℕ) LookFault → Type 0
  ListsAllNext None start result = ⊤
  ListsAllNext (Some text) start (Ok read) = (records : List Record) × AreListed text start read.0 read.1 records
  ListsAllNext (Some text) start (Err fault) = RefusesWith fault (next_records name start.version start.count [] (drop start.place text))
