use Rattle.std.proofs.Common.{◌≤◌, map}
use Rattle.gx_model.specs.Streams.Grammar.{changes}
use Rattle.gx_command.specs.Ahead.{to_come, most}
use Rattle.gx_command.specs.Views.{shown_change}
use Rattle.gx_command.proofs.Unrolled.{Collects}
use Rattle.gx_command.specs.Explaining.{MayBeAhead}
use Rattle.gx_command.proofs.Explained.{Gathers}
use Rattle.gx_command.proofs.ahead.Ahead.changes.Given as goal

abbrev pub invariant-loop-changes : goal.invariant-loop-changes
invariant-loop-changes g l = record {
  collects : Collects changes (map shown_change l.changes.items) (to_come l.fn.self) (to_come l.self);
  gathers : Gathers changes (map shown_change l.changes.items) (MayBeAhead l.fn.self) (MayBeAhead l.self);
  falls : most l.self ≤ most l.fn.self;
}

abbrev pub decreases-loop-changes : goal.decreases-loop-changes
decreases-loop-changes g l = most l.self
