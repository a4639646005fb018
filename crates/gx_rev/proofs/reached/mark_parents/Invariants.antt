use Rattle.std.proofs.Common.{◌≡◌, length}
use Rattle.gx_model.specs.Laws.RepositoryLaws.{values_of}
use Rattle.gx_model.specs.Histories.Values.{list_of, parents_of}
use Rattle.gx_model.specs.Histories.Marks.{Marks}
use Rattle.gx_rev.specs.Objects.{commit_at}
use Rattle.gx_model.proofs.Revisions.Marking.{IsBefore}
use Rattle.gx_rev.proofs.reached.mark_parents.Given as goal

abbrev pub invariant-loop-number : goal.invariant-loop-number
invariant-loop-number g l = record {
  long : length l.marks ≡ length (values_of l.repo.1);
  marked : Marks l.repo.1 (IsBefore (list_of (parents_of (commit_at l.repo.1 l.commit))) l.number) l.fn.marks l.marks;
}
