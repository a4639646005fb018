use Rattle.std.proofs.Common.{◌≤◌, map}
use Rattle.gx_model.specs.Streams.Grammar.{merges}
use Rattle.gx_command.specs.Ahead.{to_come, most}
use Rattle.gx_command.specs.Views.{shown_commit_ish}
use Rattle.gx_command.proofs.Unrolled.{Collects}
use Rattle.gx_command.specs.Explaining.{MayBeAhead}
use Rattle.gx_command.proofs.Explained.{Gathers}
use Rattle.gx_command.proofs.ahead.Ahead.merges.Given as goal

abbrev pub invariant-loop-merges : goal.invariant-loop-merges
invariant-loop-merges g l = record {
  collects : Collects merges (map shown_commit_ish l.merges.items) (to_come l.fn.self) (to_come l.self);
  gathers : Gathers merges (map shown_commit_ish l.merges.items) (MayBeAhead l.fn.self) (MayBeAhead l.self);
  falls : most l.self ≤ most l.fn.self;
}

abbrev pub decreases-loop-merges : goal.decreases-loop-merges
decreases-loop-merges g l = most l.self
