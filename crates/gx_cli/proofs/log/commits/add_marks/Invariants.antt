use Rattle.std.proofs.Common.{◌≡◌, ℕ, ◌<◌, ◌≤◌, false, length}
use Rattle.std.specs.Prelude.{slice_index_or, ◌||◌}
use Rattle.gx_cli.proofs.log.commits.add_marks.Given as goal

abbrev pub invariant-loop-place : goal.invariant-loop-place
invariant-loop-place l = record {
  long : length l.marks ≡ length l.fn.marks;
  done : (k : ℕ) → k < l.place → slice_index_or l.marks k false ≡ (slice_index_or l.fn.marks k false || slice_index_or l.others k false);
  still : (k : ℕ) → l.place ≤ k → slice_index_or l.marks k false ≡ slice_index_or l.fn.marks k false;
}
