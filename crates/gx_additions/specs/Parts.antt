-- The parts of a segment, and the slot that leads to it. Source: this project's own format.
use Rattle.std.specs.Prelude.{ℕ, ◌+◌, List, [], ◌∷◌, ◌++◌, codes, drop, length}
use Rattle.std.specs.List.{flat_map}
use Rattle.sha2.specs.Sha256.{sha256}
use Rattle.gx_model.specs.declared.store_versions.Version.TheVariants.{Two}
use Rattle.gx_model.specs.Histories.{Record}
use Rattle.gx_model.specs.Texts.{Bytes}
use Rattle.gx_model.specs.Texts.Numbers.{number_text}
use Rattle.gx_model.specs.Objects.{line}
use Rattle.gx_model.specs.Stores.StoreText.{length_text, stored_ref}
use Rattle.gx_object.specs.declared.name.Name.{Name}
use Rattle.gx_growing.specs.GrowingText.{Run, Segment, Slot, records_text, rows_text, run_text}

-- a body behind its line, which begins with this word
abbrev pub body_called : Bytes → Name → Bytes → Bytes
body_called word name body = line word (length_text Two (length body) name.bytes) ++ body ++ 10 ∷ []

-- the number of records, and these
abbrev pub records_front : List Record → Bytes
records_front records = records_text records []

-- the number of rows, their table, and an LF
abbrev pub table_front : ℕ → Bytes → Bytes
table_front count table = rows_text count table []

-- what stands before the tail of a segment
abbrev pub before_tail : Segment → Bytes
before_tail segment = records_front segment.records ++ table_front segment.count segment.table

-- the number of runs, and their lines
abbrev pub runs_front : List Run → Bytes
runs_front runs = line (codes "runs") (number_text (length runs)) ++ flat_map run_text runs

-- the number of refs, and their lines
abbrev pub refs_front : List (Bytes × Bytes) → Bytes
refs_front refs = line (codes "refs") (number_text (length refs)) ++ flat_map stored_ref refs

-- the slot of a segment behind a place, of which so many bytes stand before its tail
abbrev pub slot_of : ℕ → Bytes → ℕ → Slot
slot_of ends segment front = record { ends = (ends + front) + length (drop front segment); tail = ends + front; digest = sha256 (drop front segment) }
