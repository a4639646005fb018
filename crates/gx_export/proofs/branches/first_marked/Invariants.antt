use Rattle.std.proofs.Common.{ℕ, ◌≤◌}
use Rattle.gx_model.specs.Histories.Marks.{IsMarked}
use Rattle.gx_export.proofs.branches.first_marked.Given as goal

abbrev pub invariant-loop-place : goal.invariant-loop-place
invariant-loop-place l = (k : ℕ) → IsMarked l.marks k → l.place ≤ k
