-- A record that stands in a growing text, and the body that is read of it. Source: this project's own format.
use Rattle.std.specs.Prelude.{◌≡◌, ℕ, ◌≤◌, ◌<◌, ◌^◌, ◌++◌, length, take, slice_range, Option, Some, None, Result, IsTrue, ⊤}
use Rattle.gx_model.specs.declared.objects.Kind.{Kind}
use Rattle.gx_model.specs.declared.store_versions.Version.TheVariants.{Two}
use Rattle.gx_model.specs.Texts.{Bytes}
use Rattle.gx_model.specs.Objects.{is_name, line}
use Rattle.gx_model.specs.Objects.Naming.{kind_word}
use Rattle.gx_model.specs.Histories.{Record}
use Rattle.gx_model.specs.Stores.StoreReading.{Length}
use Rattle.gx_model.specs.Stores.StoreText.{length_text}
use Rattle.gx_growing.specs.GrowingLaws.{StandsAt}
use Rattle.gx_objects.specs.declared.fault.LookFault.{LookFault}
use Rattle.gx_look.specs.declared.records.Heading.{Heading}
use Rattle.gx_look.specs.declared.records.Standing.{Standing}
use Rattle.gx_look.specs.Reading.{Gives}

-- ---- the line

-- what a line says of a kind, and of a body's length and its name
abbrev pub shown_heading : Heading → Kind × Length
shown_heading heading = (heading.kind, (heading.length, Some heading.name.bytes))

-- the line of a record
abbrev pub heading_text : Record → Bytes
heading_text held = line (kind_word held.kind) (length_text Two (length held.body) held.name)

-- a record whose line can be read: its body's length is a number, and its name a name
pub record IsWritten (held : Record) : Type 0 where
  pub length : length held.body < 2 ^ 64
  pub name : IsTrue (is_name held.name)

-- of a text that begins with a record's line it is told what that says, and what follows
abbrev pub ReadsHeading : Bytes → Result (Heading × ℕ) LookFault → Type 0
ReadsHeading text result =
    (held : Record) (rest : Bytes) → IsWritten held → text ≡ heading_text held ++ rest
    → Gives (λ read. (shown_heading read.0 ≡ (held.kind, (length held.body, Some held.name))) × (read.1 ≡ length (heading_text held))) result

-- ---- the body

-- a body stands in a room
pub record IsRoomOf (room : Bytes) (standing : Standing) : Type 0 where
  pub begins : standing.start ≤ standing.end
  pub ends : standing.end ≤ length room

-- the body in a room
abbrev pub body_in : Bytes → Standing → Bytes
body_in room standing = slice_range room standing.start standing.end

-- a body in a room has this name
abbrev pub HasName : (Kind → Bytes → Bytes) → Bytes → Bytes → Standing → Type 0
HasName name called room standing = name standing.kind (body_in room standing) ≡ called

-- a record of a name stands at a place before an end
pub record IsRecordAt (name : Kind → Bytes → Bytes) (text : Bytes) (ends place : ℕ) (called : Bytes) (held : Record) : Type 0 where
  pub whole : ends ≤ length text
  pub stands : StandsAt (take ends text) place held
  pub written : IsWritten held
  pub name_is : held.name ≡ called
  pub named : held.name ≡ name held.kind held.body

-- the record that stands at a place is told
abbrev pub TellsRecord : (Kind → Bytes → Bytes) → Option Bytes → ℕ → ℕ → Bytes → Bytes → Result Standing LookFault → Type 0
TellsRecord name None ends place called room result = ⊤
TellsRecord name (Some text) ends place called room result =
    (held : Record) → IsRecordAt name text ends place called held
    → Gives (λ standing. (standing.kind ≡ held.kind) × (body_in room standing ≡ held.body)) result
