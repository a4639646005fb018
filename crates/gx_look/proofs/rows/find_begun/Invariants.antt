use Rattle.std.proofs.Common.{take}
use Rattle.gx_look.specs.Rows.{BegunIn}
use Rattle.gx_look.proofs.rows.find_begun.Given as goal

abbrev pub invariant-loop-run : goal.invariant-loop-run
invariant-loop-run g l = BegunIn (g.S.ReadAt.text l.source) (take l.run-index l.runs) l.ends l.found
