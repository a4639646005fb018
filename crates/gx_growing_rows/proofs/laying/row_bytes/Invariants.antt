use Rattle.std.proofs.Common.{◌≡◌, take}
use Rattle.std.specs.List.{flat_map}
use Rattle.gx_growing.specs.GrowingText.{row_text}
use Rattle.gx_growing_rows.proofs.laying.row_bytes.Given as goal

abbrev pub invariant-loop-row : goal.invariant-loop-row
invariant-loop-row g l = l.bytes.items ≡ flat_map row_text (take l.row-index l.rows)
