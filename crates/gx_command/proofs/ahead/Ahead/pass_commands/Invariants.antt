use Rattle.std.proofs.Common.{◌-◌, ◌≤◌}
use Rattle.gx_command.specs.Ahead.{to_come, most}
use Rattle.gx_command.specs.Explaining.{MayBeAhead}
use Rattle.gx_command.proofs.PassedCommands.{ArePassed}
use Rattle.gx_command.proofs.PassedItems.{PassedOn}
use Rattle.gx_command.proofs.ahead.Ahead.pass_commands.Given as goal

abbrev pub invariant-loop-passed : goal.invariant-loop-passed
invariant-loop-passed g l = record {
  passed : ArePassed l.passed l.state (to_come l.fn.self) (to_come l.self);
  explained : PassedOn l.passed l.state (MayBeAhead l.fn.self) (MayBeAhead l.self);
  within : l.passed ≤ l.commands;
  falls : most l.self ≤ most l.fn.self;
}

abbrev pub decreases-loop-passed : goal.decreases-loop-passed
decreases-loop-passed g l = l.commands - l.passed
