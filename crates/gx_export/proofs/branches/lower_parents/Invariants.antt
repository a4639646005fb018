use Rattle.gx_model.specs.Histories.Values.{list_of, parents_of}
use Rattle.gx_model.proofs.Revisions.Marking.{IsBefore}
use Rattle.gx_rev.specs.Objects.{commit_at}
use Rattle.gx_export.specs.Branches.{IsLowered}
use Rattle.gx_export.proofs.branches.lower_parents.Given as goal

abbrev pub invariant-loop-number : goal.invariant-loop-number
invariant-loop-number g l = IsLowered l.repo.1 (IsBefore (list_of (parents_of (commit_at l.repo.1 l.commit))) l.number) l.rank l.fn.ranks l.ranks
