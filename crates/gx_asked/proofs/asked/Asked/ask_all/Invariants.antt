use Rattle.std.proofs.Common.{map, take}
use Rattle.std.specs.List.{AllByRecursion}
use Rattle.gx_command.specs.Views.{shown_commit_ish}
use Rattle.gx_asked.specs.Entering.{AsksCommitIsh, Keeps}
use Rattle.gx_asked.proofs.asked.Asked.ask_all.Given as goal

abbrev pub invariant-loop-commit : goal.invariant-loop-commit
invariant-loop-commit g l = record {
  kept : Keeps l.fn.self l.self;
  asked : AllByRecursion (AsksCommitIsh l.self) (map shown_commit_ish (take l.commit-index l.commits));
}
