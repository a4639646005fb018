-- The rows of a segment that stands behind a place, with these records. Source: this project's own format.
use Rattle.std.specs.Prelude.{ℕ, ◌+◌, List, ◌++◌, length, codes}
use Rattle.std.specs.List.{flat_map}
use Rattle.gx_model.specs.declared.store_versions.Version.TheVariants.{Two}
use Rattle.gx_model.specs.Texts.Numbers.{number_text}
use Rattle.gx_model.specs.Objects.{line}
use Rattle.gx_model.specs.Histories.{Record}
use Rattle.gx_model.specs.Stores.StoreText.{stored_record}
use Rattle.gx_growing.specs.GrowingText.{Row, first_place, placed, sorted_rows}

module _ (ends : ℕ) (new : List Record) where
  -- where they begin, where so many rows of live runs are taken in
  abbrev pub next_place : ℕ → ℕ
  next_place taken =
      first_place ends new + length (flat_map (stored_record Two) new) + length (line (codes "rows") (number_text (taken + length new)))

  -- the rows that are taken in and those of the records, in order
  abbrev pub next_rows : List Row → List Row
  next_rows taken = sorted_rows (taken ++ placed (first_place ends new) new)
