-- A record that stands in a plain text, and the body that is read of it. Source: this project's own format.
use Rattle.std.specs.Prelude.{◌≡◌, ℕ, ◌+◌, ◌-◌, ◌≤◌, ◌<◌, ◌^◌, List, length, drop, slice_range, Option, Some, None, Result, Ok, Err, ⊤}
use Rattle.std.specs.List.{AllZip}
use Rattle.std.specs.Option.{ok_or}
use Rattle.gx_model.specs.declared.objects.Kind.{Kind}
use Rattle.gx_model.specs.declared.store_versions.Version.{Version}
use Rattle.gx_model.specs.declared.store_faults.FileFault.TheVariants as fault
use Rattle.gx_model.specs.Faults.{◌>>=◌}
use Rattle.gx_model.specs.Texts.{Bytes}
use Rattle.gx_model.specs.Histories.{Record}
use Rattle.gx_model.specs.Stores.StoreReading.{Length, Stored, record_line, stored_body, stored_line}
use Rattle.gx_object.specs.Parts.{bytes_if}
use Rattle.gx_object.specs.declared.name.Name.{Name}
use Rattle.gx_objects.specs.declared.fault.LookFault.{LookFault}
use Rattle.gx_listed.specs.Listings.{Listed}
use Rattle.gx_look.specs.Reading.{Gives}
use Rattle.gx_plain.specs.Reading.{RefusesWith}
use Rattle.gx_plain.specs.declared.heading.Heading.{Heading}
use Rattle.gx_plain.specs.declared.records.Found.{Found}

-- ---- the line

-- a length and the name behind it
abbrev pub shown_length : ℕ × Option Name → Length
shown_length field = (field.0, bytes_if field.1)

-- what a line says of a kind, a body's length, and a name
abbrev pub shown_heading : Heading → Kind × Length
shown_heading heading = (heading.kind, (heading.length, bytes_if heading.stated))

-- ---- the record that comes next

-- what its line says; its body, and what follows
abbrev pub Parts : Type 0
Parts = (Kind × Length) × (Bytes × Bytes)

abbrev pub next_parts : Version → Bytes → Stored Parts
next_parts v text = do
  l ← stored_line text
  k ← ok_or (record_line v l.0) fault.BadRecord
  body ← stored_body k.1.0 l.1
  Ok (k, body)

-- a body stands in a room, and an LF behind it
pub record IsRoomOf (at : ℕ) (room : Bytes) (found : Found) : Type 0 where
  pub begins : found.start ≤ found.end
  pub ends : found.end < length room
  pub near : at + found.end + 1 < 2 ^ 64

-- the body in a room
abbrev pub body_in : Bytes → Found → Bytes
body_in room found = slice_range room found.start found.end

-- where the record ends
abbrev pub end_of : ℕ → Found → ℕ
end_of at found = at + found.end + 1

-- what was found, with what follows it in the text
abbrev pub shown_parts : Bytes → ℕ → Bytes → Found → Parts
shown_parts text at room found = ((found.kind, (found.end - found.start, bytes_if found.stated)), (body_in room found, drop (end_of at found) text))

-- what was found is the record at a place, which ends within the text
pub record IsParts (v : Version) (text : Bytes) (at : ℕ) (room : Bytes) (found : Found) : Type 0 where
  pub parts : next_parts v (drop at text) ≡ Ok (shown_parts text at room found)
  pub within : end_of at found ≤ length text

-- the record at a place is found, or why there is none; of what tells no text, nothing is claimed
abbrev pub ReadsParts : Version → Option Bytes → ℕ → Bytes → Result Found LookFault → Type 0
ReadsParts v None at room result = ⊤
ReadsParts v (Some text) at room (Ok found) = IsParts v text at room found
ReadsParts v (Some text) at room (Err fault) = RefusesWith fault (next_parts v (drop at text))

-- ---- a record whose name is known

-- a body in a room has this name
abbrev pub HasName : (Kind → Bytes → Bytes) → Bytes → Bytes → Found → Type 0
HasName name called room found = name found.kind (body_in room found) ≡ called

-- a record of a name stands at a place
pub record IsStoredAt (name : Kind → Bytes → Bytes) (v : Version) (text : Bytes) (at : ℕ) (called : Bytes) (held : Record) : Type 0 where
  pub stated : Option Bytes
  pub rest : Bytes
  pub parts : next_parts v (drop at text) ≡ Ok ((held.kind, (length held.body, stated)), (held.body, rest))
  pub name_is : held.name ≡ called
  pub named : held.name ≡ name held.kind held.body

-- the record that stands at a place is told
abbrev pub TellsRecord : (Kind → Bytes → Bytes) → Version → Option Bytes → ℕ → Bytes → Bytes → Result Found LookFault → Type 0
TellsRecord name v None at called room result = ⊤
TellsRecord name v (Some text) at called room result =
    (held : Record) → IsStoredAt name v text at called held → Gives (λ found. (found.kind ≡ held.kind) × (body_in room found ≡ held.body)) result

-- objects that are listed are those of these records, each of which stands where it is listed
abbrev pub AreStored : (Kind → Bytes → Bytes) → Version → Bytes → List Listed → List Record → Type 0
AreStored name v text listed records = AllZip (λ one held. IsStoredAt name v text one.1.place held.name held) listed records
