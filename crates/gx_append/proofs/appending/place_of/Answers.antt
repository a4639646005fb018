use Rattle.std.proofs.Common.{sym, ap}
use Rattle.gx_append.specs.Appending.{slot_place}
use Rattle.gx_append.proofs.appending.place_of.Goals as goal

pub returns-then-is_first : goal.returns-then-is_first
returns-then-is_first c = ap slot_place (sym c.if-is_first.true)

pub returns-else-is_first : goal.returns-else-is_first
returns-else-is_first c = ap slot_place (sym c.if-is_first.false)
