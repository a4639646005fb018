use Rattle.std.proofs.Common.{List, Ok, take}
use Rattle.gx_model.specs.Histories.{Records}
use Rattle.gx_model.specs.Histories.Values.{Value}
use Rattle.gx_export.specs.Compared.{gone_items}
use Rattle.gx_sending.specs.Marks.{Adds, HasWritten}
use Rattle.gx_sending.proofs.lines.write_gone.Given as goal

abbrev pub invariant-loop-path : goal.invariant-loop-path
invariant-loop-path g l = (r : Records) (ws : List Value) → HasWritten r ws l.fn.written → Adds ws (gone_items (take l.path-index l.gone)) l.fn.written l.written (Ok tt) r
