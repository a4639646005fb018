use Rattle.std.proofs.Common.{take, None}
use Rattle.gx_look.specs.Rows.{PlacesIn}
use Rattle.gx_look.proofs.rows.find_place.Given as goal

abbrev pub invariant-loop-run : goal.invariant-loop-run
invariant-loop-run g l = PlacesIn (g.S.ReadAt.text l.source) (take l.run-index l.runs) l.name.bytes None
