use Rattle.std.proofs.Common.{◌≡◌, ℕ, ◌<◌, ◌≤◌, false, not}
use Rattle.std.specs.Prelude.{slice_index_or, ◌&&◌, ◌||◌}
use Rattle.gx_export.proofs.exporting_changes.part.Given as goal

abbrev pub invariant-loop-place : goal.invariant-loop-place
invariant-loop-place l = record {
  sent : (k : ℕ) → k < l.place → slice_index_or l.sent k false ≡ (slice_index_or l.fn.sent k false && not (slice_index_or l.fn.set k false));
  set : (k : ℕ) → k < l.place → slice_index_or l.set k false ≡ (slice_index_or l.fn.sent k false || slice_index_or l.fn.set k false);
  still : (k : ℕ) → l.place ≤ k → slice_index_or l.sent k false ≡ slice_index_or l.fn.sent k false;
  unset : (k : ℕ) → l.place ≤ k → slice_index_or l.set k false ≡ slice_index_or l.fn.set k false;
}
