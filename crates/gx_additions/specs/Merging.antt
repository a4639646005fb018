-- The live runs that a new one takes in, and their rows. Source: this project's own format.
use Rattle.std.specs.Prelude.{◌≡◌, ◌⊎◌, ℕ, ◌+◌, ◌*◌, ◌≤◌, List, [], ◌∷◌, ◌++◌, length, Option, Some, None, ⊤}
use Rattle.std.specs.List.{sum_by}
use Rattle.gx_at.specs.Reads.{StandsAt}
use Rattle.gx_model.specs.Texts.{Bytes}
use Rattle.gx_growing.specs.GrowingText.{Run, live_rows, rows_in}
use Rattle.gx_growing_parts.specs.declared.runs.Run.{Run as GivenRun}

-- ---- which runs

-- how many rows runs have
abbrev pub rows_given : List GivenRun → ℕ
rows_given = sum_by (λ run. run.count)

-- a run of so many rows is taken in where those of others are, beside new ones
abbrev pub Fits : ℕ → ℕ → ℕ → ℕ → Type 0
Fits new most rows count = (rows + count ≤ most) × (count ≤ 2 * (rows + new))

-- each of these runs is taken in where those behind it are
abbrev pub AreTakenIn : ℕ → ℕ → List GivenRun → Type 0
AreTakenIn new most [] = ⊤
AreTakenIn new most (run ∷ runs) = Fits new most (rows_given runs) run.count × AreTakenIn new most runs

-- the last of the others isn't
abbrev pub StayLive : ℕ → ℕ → List GivenRun → List GivenRun → Type 0
StayLive new most kept taken =
    (kept ≡ []) ⊎ ((front : List GivenRun) × (run : GivenRun) × (kept ≡ front ++ run ∷ []) × (Fits new most (rows_given taken) run.count → ⊥))

-- ---- their rows

-- The bytes of a run's rows were put behind others.
pub record AddsRows (told : Option Bytes) (run : Run) (old new : Bytes) : Type 0 where
  pub bytes : Bytes
  pub added : new ≡ old ++ bytes
  pub long : length bytes ≡ 28 * run.count
  pub there : StandsAt told run.place bytes

-- how many rows runs have
abbrev pub rows_shown : List Run → ℕ
rows_shown = sum_by (λ run. run.count)

-- these are the bytes of the rows of runs; of what tells no text, nothing is claimed
abbrev pub ReadsRows : Option Bytes → List Run → Bytes → Type 0
ReadsRows None runs rows = ⊤
ReadsRows (Some text) runs rows = (length rows ≡ 28 * rows_shown runs) × (rows_in (rows_shown runs) rows ≡ live_rows text runs)
