-- The front of a plain text. Source: this project's own format.
use Rattle.std.specs.Prelude.{◌≡◌, ℕ, ◌≤◌, length, drop, codes, Option, Some, None, Result, Ok, Err, ⊤}
use Rattle.gx_model.specs.declared.store_versions.Version.{Version}
use Rattle.gx_model.specs.Faults.{◌>>=◌}
use Rattle.gx_model.specs.Texts.{Bytes}
use Rattle.gx_model.specs.Stores.StoreReading.{Stored, after_magic, stored_count}
use Rattle.gx_objects.specs.declared.fault.LookFault.{LookFault}
use Rattle.gx_plain.specs.Reading.{RefusesWith}
use Rattle.gx_plain.specs.declared.start.Start.{Start}

-- the version, the number of the records, and what follows
abbrev pub start_of : Bytes → Stored (Version × (ℕ × Bytes))
start_of text = do
  start ← after_magic text
  objects ← stored_count (codes "objects") start.1
  Ok (start.0, objects)

-- this is the front of a text, behind which a place stands
pub record IsStart (text : Bytes) (start : Start) : Type 0 where
  pub lines : start_of text ≡ Ok (start.version, (start.count, drop start.place text))
  pub within : start.place ≤ length text

abbrev pub ReadsStart : Option Bytes → Result Start LookFault → Type 0
ReadsStart None result = ⊤
ReadsStart (Some text) (Ok start) = IsStart text start
ReadsStart (Some text) (Err fault) = RefusesWith fault (start_of text)
