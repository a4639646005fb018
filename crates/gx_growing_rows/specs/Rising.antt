-- Rows whose names go up, and what comes of pushing those of runs. Source: this project's own format.
use Rattle.std.specs.Prelude.{◌≡◌, ◌⊎◌, ℕ, ◌+◌, ◌*◌, ◌<◌, ◌≤◌, ◌++◌, Bool, true, false, List, length, Option, Some, None, Result, Ok, Err, ⊤}
use Rattle.std.specs.FinMap.Entries.{is_sorted}
use Rattle.std.specs.List.{list_all}
use Rattle.std.specs.Ordering.{is_lt}
use Rattle.gx_model.specs.Texts.{Bytes, byte_cmp}
use Rattle.gx_growing.specs.GrowingReading.{is_standing}
use Rattle.gx_growing.specs.GrowingText.{Row, Run, live_rows, rows_in, run_rows}

-- whether a name stands behind the one before, where there is one
abbrev pub is_above : Option Bytes → Bytes → Bool
is_above None name = true
is_above (Some last) name = is_lt (byte_cmp last name)

-- the rows that so many bytes are were pushed, if their names go up
abbrev pub PushesRows : {E : Type 0} → Bytes → List Row → List Row → Result Bool E → Type 0
PushesRows rows old new (Ok up) =
    (count : ℕ) → length rows ≡ 28 * count → (up ≡ is_sorted byte_cmp (rows_in count rows)) × (up ≡ true → new ≡ old ++ rows_in count rows)
PushesRows rows old new (Err refused) = ⊤

module _ (digest : Bytes → Bytes) (text : Bytes) (most : ℕ) where
  -- the rows of a run were pushed that stands in the text, or it doesn't, or there are too many rows
  abbrev pub PushesRun : {E : Type 0} → Run → List Row → List Row → Result Bool E → Type 0
  PushesRun run old new (Ok true) = (is_standing digest text run ≡ true) × (new ≡ old ++ run_rows text run) × (length new ≤ most)
  PushesRun run old new (Ok false) = (is_standing digest text run ≡ false) ⊎ (most < length old + run.count)
  PushesRun run old new (Err refused) = ⊤

  -- the rows of runs were gathered that stand in the text, or one doesn't, or there are too many rows
  abbrev pub GathersRows : {E : Type 0} → List Run → List Row → Result Bool E → Type 0
  GathersRows runs live (Ok true) = (list_all (is_standing digest text) runs ≡ true) × (live ≡ live_rows text runs)
  GathersRows runs live (Ok false) = (list_all (is_standing digest text) runs ≡ false) ⊎ (most < length (live_rows text runs))
  GathersRows runs live (Err refused) = ⊤
