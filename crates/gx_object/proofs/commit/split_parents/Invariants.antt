use Rattle.std.proofs.Common.{◌≡◌, ◌≤◌, length}
use Rattle.gx_object.specs.Commits.{parents_of}
use Rattle.gx_object.proofs.commit.split_parents.Given as goal

abbrev pub invariant-loop-name : goal.invariant-loop-name
invariant-loop-name l = ((parents_of l.rest).1 ≡ (parents_of l.bytes).1) × (length l.rest ≤ length l.bytes)

abbrev pub decreases-loop-name : goal.decreases-loop-name
decreases-loop-name l = length l.rest
