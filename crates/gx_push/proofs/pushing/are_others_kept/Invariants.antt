use Rattle.std.proofs.Common.{◌≡◌, List, length}
use Rattle.gx_model.specs.Texts.{Bytes}
use Rattle.gx_repo.specs.Dropping.{AreIn}
use Rattle.gx_push.specs.Pushes.{are_kept}
use Rattle.gx_push.proofs.pushing.are_others_kept.Given as goal

abbrev pub invariant-loop-new : goal.invariant-loop-new
invariant-loop-new g l = (others : List Bytes) → AreIn l.names others → are_kept others l.before l.after ≡ are_kept others l.initial.before l.initial.after

abbrev pub decreases-loop-new : goal.decreases-loop-new
decreases-loop-new g l = length l.after
