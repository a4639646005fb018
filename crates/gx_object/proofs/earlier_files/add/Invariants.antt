use Rattle.std.proofs.Common.{◌≡◌, ◌≤◌, ◌<◌, false, ℕ, get_or}
use Rattle.gx_object.proofs.earlier_files.add.Given as goal

abbrev pub invariant-loop-n : goal.invariant-loop-n
invariant-loop-n l = record {
  below : (n : ℕ) → n < l.above → get_or l.is_file n false ≡ get_or l.initial.is_file n false;
  between : (n : ℕ) → l.above ≤ n → n < l.n → get_or l.is_file n false ≡ false;
}
