use Rattle.std.proofs.Common.{◌≡◌, drop, length, map}
use Rattle.gx_repo.specs.Pruning.{objects_held}
use Rattle.gx_repo.specs.Refs.{shown_ref}
use Rattle.gx_repo.proofs.PrunedRecords.{MarksSoFar}
use Rattle.gx_repo.proofs.pruning.mark_tips.Given as goal

abbrev pub invariant-loop-held : goal.invariant-loop-held
invariant-loop-held g l = (length l.marks ≡ length l.store.1) × MarksSoFar l.store.1 (objects_held l.refs) (objects_held (map shown_ref (drop l.held-index l.held-items))) l.fn.marks l.marks
