-- Where the table of a run stands. Source: this project's own format.
use Rattle.std.specs.Prelude.{ℕ, ◌+◌, ◌*◌, Bool, ◌&&◌, nat_le, length}
use Rattle.gx_model.specs.Texts.{Bytes}
use Rattle.gx_growing.specs.GrowingReading.{has_digests}
use Rattle.gx_growing.specs.GrowingText.{Run, digests_length, head_length, part, table_length}

-- whether so many rows and their digests stand at a place in the segments of a text
abbrev pub is_within : Bytes → ℕ → ℕ → Bool
is_within text place count = nat_le head_length place && nat_le (place + table_length count) (length text)

-- the bytes of so many rows at a place
abbrev pub rows_at : Bytes → ℕ → ℕ → Bytes
rows_at text place count = part text place (28 * count)

-- the digests behind so many rows at a place
abbrev pub digests_at : Bytes → ℕ → ℕ → Bytes
digests_at text place count = part text (place + 28 * count) (digests_length count)

-- whether a run's rows stand in the segments of a text with the digests of their pages, of which it has the digest
abbrev pub has_table : (Bytes → Bytes) → Bytes → Run → Bool
has_table digest text run = is_within text run.place run.count && has_digests digest text run
