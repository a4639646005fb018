use Rattle.std.proofs.Common.{◌≡◌, ℕ, ◌*◌, length}
use Rattle.gx_growing_rows.proofs.RisingRows.{RowsLeft}
use Rattle.gx_growing_rows.proofs.checking.push_rows.Given as goal

abbrev pub invariant-loop-row : goal.invariant-loop-row
invariant-loop-row g l = (count : ℕ) → length l.fn.rows ≡ 28 * count → RowsLeft count l.fn.rows l.fn.live.items l.last l.rest l.live.items

abbrev pub decreases-loop-row : goal.decreases-loop-row
decreases-loop-row g l = length l.rest
