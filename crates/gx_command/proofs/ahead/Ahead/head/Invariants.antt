use Rattle.std.proofs.Common.{◌≤◌}
use Rattle.gx_command.specs.Ahead.{to_come, most}
use Rattle.gx_command.proofs.TakenHeads.{SameFirst}
use Rattle.gx_command.specs.Explaining.{MayBeAhead}
use Rattle.gx_command.proofs.ExplainedItems.{BeginsAlike}
use Rattle.gx_command.proofs.ahead.Ahead.head.Given as goal

abbrev pub invariant-loop-head : goal.invariant-loop-head
invariant-loop-head g l = record {
  same : SameFirst l.is_early (to_come l.fn.self) (to_come l.self);
  alike : BeginsAlike l.is_early (MayBeAhead l.fn.self) (MayBeAhead l.self);
  falls : most l.self ≤ most l.fn.self;
}

abbrev pub decreases-loop-head : goal.decreases-loop-head
decreases-loop-head g l = most l.self
