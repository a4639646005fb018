use Rattle.std.proofs.Common.{◌≡◌, ◌≤◌, List, length}
use Rattle.gx_model.specs.Texts.{Bytes}
use Rattle.gx_repo.specs.Dropping.{AreIn, without}
use Rattle.gx_push.proofs.pushing.next_other.Given as goal

abbrev pub invariant-loop-name : goal.invariant-loop-name
invariant-loop-name g l =
    (goal.iterator-loop-name g).can_next l.refs × (goal.iterator-loop-name g).is_finite l.refs
    × ((others : List Bytes) → AreIn l.names others → without others l.refs ≡ without others l.initial.refs) × (length l.refs ≤ length l.initial.refs)
