use Rattle.std.proofs.Common.{take}
use Rattle.gx_look.proofs.ListedRows.{AreLive}
use Rattle.gx_look.proofs.listing.rows_by_place.Given as goal

abbrev pub invariant-loop-run : goal.invariant-loop-run
invariant-loop-run g l = AreLive (g.S.ReadAt.text l.source) (take l.run-index l.runs) l.rows.items
