-- The repository that a plain text tells, and where its objects stand.
use Rattle.std.specs.Prelude.{◌≡◌, ℕ, ◌-◌, List, [], length, drop, slice_index, Option, Some, None, Ok, Err, ⊤}
use Rattle.std.specs.Option.{option_and_then}
use Rattle.std.specs.Result.{result_ok}
use Rattle.gx_model.specs.declared.objects.Kind.{Kind}
use Rattle.gx_model.specs.declared.store_versions.Version.{Version}
use Rattle.gx_model.specs.Texts.{Bytes}
use Rattle.gx_model.specs.Histories.{Records}
use Rattle.gx_model.specs.Stores.StoreReading.{Stored, store_of}
use Rattle.gx_listed.specs.Listings.{HaveHeads, Listed}
use Rattle.gx_look.specs.Tails.{refs_text}
use Rattle.gx_plain.specs.Listing.{places_from, places_listed}
use Rattle.gx_plain.specs.Records.{AreStored}
use Rattle.gx_plain.specs.Refs.{HoldsLines}
use Rattle.gx_plain.specs.Starts.{start_of}
use Rattle.gx_plain.specs.declared.refs.Tail.{Tail}

-- the repository of a text that is told, where the text is one of version 1 or 2
abbrev pub told_by : (Kind → Bytes → Bytes) → Option Bytes → Option Records
told_by name told = option_and_then (λ text. result_ok (store_of name text)) told

-- ---- places

-- where the records of a text of this length stand, which has this front
abbrev pub places_of : ℕ → Stored (Version × (ℕ × Bytes)) → Stored Records → List ℕ
places_of size (Ok start) (Ok r) = places_from start.0 (size - length start.1.1) r.records
places_of size (Ok start) (Err fault) = []
places_of size (Err fault) read = []

-- the place of the record of a number in a text that is told
abbrev pub places_in : (Kind → Bytes → Bytes) → Option Bytes → ℕ → ℕ
places_in name None number = 0
places_in name (Some text) number = slice_index (places_of (length text) (start_of text) (store_of name text)) number

-- ---- what is held

-- a text is read as this repository, and what is listed are its objects
pub record IsReadAs {A : Type 0} (name : Kind → Bytes → Bytes) (text : Bytes) (v : Version) (listed : List Listed) (tail : Tail A) : Type 0 where
  pub repository : Records
  pub count : ℕ
  pub behind : Bytes
  pub starts : start_of text ≡ Ok (v, (count, behind))
  pub read : store_of name text ≡ Ok repository
  pub heads : HaveHeads listed repository.records
  pub places : places_listed listed ≡ places_from v (length text - length behind) repository.records
  pub stand : AreStored name v text listed repository.records
  pub refs : drop tail.refs tail.text.items ≡ refs_text repository.refs

abbrev pub IsReadIfTold : {A : Type 0} → (Kind → Bytes → Bytes) → Option Bytes → Version → List Listed → Tail A → Type 0
IsReadIfTold name None v listed tail = ⊤
IsReadIfTold name (Some text) v listed tail = IsReadAs name text v listed tail

pub record IsOpened {A : Type 0} (name : Kind → Bytes → Bytes) (told : Option Bytes) (v : Version) (listed : List Listed) (tail : Tail A) : Type 0 where
  pub lines : HoldsLines tail
  pub whole : IsReadIfTold name told v listed tail
