use Rattle.std.proofs.Common.{◌≡◌, ◌≤◌, drop, length}
use Rattle.std.specs.Prelude.{List}
use Rattle.gx_model.specs.Pruning.{is_reachable, is_tip}
use Rattle.gx_model.specs.Records.Publishing.{Ref}
use Rattle.gx_repo.specs.Pruning.{marks_by}
use Rattle.gx_repo.proofs.pruning.spread.Given as goal

abbrev pub invariant-loop-left : goal.invariant-loop-left
invariant-loop-left g l =
    (length l.marks ≡ length l.store.1) × (l.left ≤ length l.store.1)
    × ((refs : List Ref) → l.fn.marks ≡ marks_by (is_tip refs) l.store.1 → l.marks ≡ marks_by (is_reachable refs (drop l.left l.store.1)) l.store.1)

abbrev pub decreases-loop-left : goal.decreases-loop-left
decreases-loop-left g l = l.left
