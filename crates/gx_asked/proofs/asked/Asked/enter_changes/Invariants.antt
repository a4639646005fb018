use Rattle.std.proofs.Common.{map, take}
use Rattle.std.specs.List.{AllByRecursion}
use Rattle.gx_command.specs.Views.{shown_change}
use Rattle.gx_asked.specs.Entering.{AsksChange, Keeps}
use Rattle.gx_asked.proofs.asked.Asked.enter_changes.Given as goal

abbrev pub invariant-loop-change : goal.invariant-loop-change
invariant-loop-change g l = record {
  kept : Keeps l.fn.self l.self;
  asked : AllByRecursion (AsksChange l.self) (map shown_change (take l.change-index l.changes));
}
