use Rattle.std.proofs.Common.{map, take}
use Rattle.gx_growing_parts.specs.Shown.{shown_run}
use Rattle.gx_additions.specs.Merging.{ReadsRows}
use Rattle.gx_additions.proofs.merging.read_rows.Given as goal

abbrev pub invariant-loop-run : goal.invariant-loop-run
invariant-loop-run g l = ReadsRows (g.S.ReadAt.text l.source) (map shown_run (take l.run-index l.runs)) l.rows.items
