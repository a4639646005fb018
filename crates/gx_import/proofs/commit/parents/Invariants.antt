use Rattle.std.proofs.Common.{◌≡◌, None, Option, map, drop}
use Rattle.gx_model.specs.Replay.{State}
use Rattle.gx_model.specs.Histories.Values as values
use Rattle.gx_command.specs.Views.{shown_commit_ish}
use Rattle.gx_rev.specs.FirstParents.{AreFirstParents}
use Rattle.gx_import.specs.Objects.{IsCommitOf}
use Rattle.gx_import.specs.Rows.{AreBoth}
use Rattle.gx_import.specs.Standing.{Stands}
use Rattle.gx_import.proofs.MergedParents.{ArePartOf, ArePassed}
use Rattle.gx_import.proofs.commit.parents.Given as goal

abbrev pub invariant-loop-place : goal.invariant-loop-place
invariant-loop-place g l = record {
  walk : AreFirstParents l.repo.1 l.first_parents;
  same : l.commit ≡ l.fn.commit;
  blank : l.asked ≡ None;
  named : (s : State) (made : Option values.Commit) → Stands (g.N.Namer.name_of l.repo.0) l.repo.1 l.tables s → AreBoth (IsCommitOf (g.N.Namer.name_of l.repo.0) s.history.values) made l.fn.first
      → ArePartOf (g.N.Namer.name_of l.repo.0) l.fn.commit.branch.bytes.items s made (map shown_commit_ish l.fn.commit.merges.items) (map shown_commit_ish (drop l.place l.fn.commit.merges.items)) l.parents.items;
  passed : (s : State) → Stands (g.N.Namer.name_of l.repo.0) l.repo.1 l.tables s
      → ArePassed (g.N.Namer.name_of l.repo.0) l.fn.commit.branch.bytes.items s (map shown_commit_ish l.fn.commit.merges.items) (map shown_commit_ish (drop l.place l.fn.commit.merges.items));
}
