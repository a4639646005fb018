use Rattle.std.proofs.Common.{drop, map}
use Rattle.std.specs.List.{AllByRecursion}
use Rattle.gx_model.specs.Revisions.Denotation.{denoted}
use Rattle.gx_model.specs.Records.HistoryOf.{history_of}
use Rattle.gx_rev.specs.Answers.{IsNamed, shown_by}
use Rattle.gx_print.proofs.ReadWords.{AreRead}
use Rattle.gx_cli.proofs.rev_parse.eval_into.Given as goal

abbrev pub invariant-loop-place : goal.invariant-loop-place
invariant-loop-place g l = record {
  done : AreRead (denoted (g.N.Namer.name_of l.repo.0) (history_of l.repo.1)) l.revisions (drop l.place l.revisions) l.place (map (shown_by l.repo.1) l.shown.items);
  named : AllByRecursion (IsNamed (g.N.Namer.name_of l.repo.0) l.repo.1) l.shown.items;
}
