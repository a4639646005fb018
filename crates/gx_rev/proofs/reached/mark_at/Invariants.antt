use Rattle.std.proofs.Common.{◌≡◌, length}
use Rattle.gx_model.specs.Histories.Values.{Commits, list_of}
use Rattle.gx_model.specs.Histories.Marks.{Marks}
use Rattle.gx_model.proofs.Revisions.Marking.{IsBefore}
use Rattle.gx_rev.specs.Parents.{StandAt}
use Rattle.gx_rev.proofs.reached.mark_at.Given as goal

abbrev pub invariant-loop-place : goal.invariant-loop-place
invariant-loop-place g l = record {
  long : length l.marks ≡ length l.fn.marks;
  marked : (parents : Commits) → StandAt l.repo.1 (list_of parents) l.places → Marks l.repo.1 (IsBefore (list_of parents) l.place-index) l.fn.marks l.marks;
}
