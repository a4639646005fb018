use Rattle.std.proofs.Common.{◌≡◌, ℕ, ◌*◌, [], length}
use Rattle.gx_growing_rows.proofs.RisingRows.{AreLeft}
use Rattle.gx_growing_rows.proofs.laying.read_rows.Given as goal

abbrev pub invariant-loop-row : goal.invariant-loop-row
invariant-loop-row g l = (count : ℕ) → length l.fn.bytes ≡ 28 * count → (left : ℕ) × AreLeft count l.fn.bytes [] left l.rest l.rows.items

abbrev pub decreases-loop-row : goal.decreases-loop-row
decreases-loop-row g l = length l.rest
