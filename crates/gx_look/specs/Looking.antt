-- The repository that a growing text tells, and where its objects stand.
use Rattle.std.specs.Prelude.{ℕ, List, [], map, slice_index, Option, Some, None, Ok, Err}
use Rattle.std.specs.Option.{option_and_then}
use Rattle.std.specs.Result.{result_ok}
use Rattle.sha2.specs.Sha256.{sha256}
use Rattle.gx_model.specs.declared.objects.Kind.{Kind}
use Rattle.gx_model.specs.Texts.{Bytes}
use Rattle.gx_model.specs.Histories.{Records}
use Rattle.gx_model.specs.Stores.StoreReading.{Stored}
use Rattle.gx_growing.specs.GrowingText.{Row, Slot}
use Rattle.gx_growing.specs.GrowingReading.{Front, front_of, grown_of}

-- the repository of a text that is told, where the text is a growing one
abbrev pub told_by : (Kind → Bytes → Bytes) → Option Bytes → Option Records
told_by name told = option_and_then (λ text. result_ok (grown_of name sha256 text)) told

-- ---- places

-- the rows of what is read of a text
abbrev pub rows_of : Stored (Slot × Front) → List Row
rows_of (Ok read) = read.1.rows
rows_of (Err fault) = []

-- the rows of all records of a text that is told, in their order
abbrev pub told_rows : (Kind → Bytes → Bytes) → Option Bytes → List Row
told_rows name None = []
told_rows name (Some text) = rows_of (front_of name text)

-- the place in the row of a number
abbrev pub place_at : List Row → ℕ → ℕ
place_at rows number = slice_index (map (λ row. row.1) rows) number
