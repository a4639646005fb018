use Rattle.std.proofs.Common.{◌≡◌, take}
use Rattle.gx_growing_parts.specs.Placing.{rows_of}
use Rattle.gx_growing_rows.proofs.checking.placed_rows.Given as goal

abbrev pub invariant-loop-at : goal.invariant-loop-at
invariant-loop-at g l = l.rows.items ≡ take l.at (rows_of l.store.1 l.places)
