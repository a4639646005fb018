use Rattle.std.proofs.Common.{◌+◌, ◌-◌, ◌^◌, ◌≤◌}
use Rattle.gx_command.specs.Ahead.{to_come, most}
use Rattle.gx_command.specs.Explaining.{MayBeAhead}
use Rattle.gx_command.proofs.CountedItems.{AreCounted}
use Rattle.gx_command.proofs.PassedItems.{CountedOn}
use Rattle.gx_command.proofs.ahead.Ahead.count_left.Given as goal

abbrev pub invariant-loop-is_empty : goal.invariant-loop-is_empty
invariant-loop-is_empty g l = record {
  counted : AreCounted l.count (to_come l.fn.self) (to_come l.self);
  explained : CountedOn l.count (MayBeAhead l.fn.self) (MayBeAhead l.self);
  within : l.count + most l.self ≤ 2 ^ 63 - 1;
}

abbrev pub decreases-loop-is_empty : goal.decreases-loop-is_empty
decreases-loop-is_empty g l = most l.self
