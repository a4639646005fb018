use Rattle.std.proofs.Common.{◌≡◌, map, drop}
use Rattle.gx_object.specs.Order.{meets}
use Rattle.gx_object.specs.Entries.{shown}
use Rattle.gx_object.proofs.order.meets.Given as goal

abbrev pub invariant-loop-other : goal.invariant-loop-other
invariant-loop-other l = meets l.component (map shown (drop l.other-index l.others)) ≡ meets l.component (map shown l.others)
