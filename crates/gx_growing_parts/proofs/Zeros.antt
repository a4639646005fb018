-- Zeros in front of numbers.
use Rattle.std.proofs.Common.{◌≡◌, ℕ, zero, suc, ◌-◌, drop, sym, ap, ◌∙◌, arith}
use Rattle.std.specs.Prelude.{replicate}

drop_zeros : (k n : ℕ) → drop {A = ℕ} k (replicate n 48) ≡ replicate (n - k) 48
drop_zeros zero n = let all : n - 0 ≡ n = omega arith in ap (λ m. replicate m 48) (sym all)
drop_zeros (suc k) zero = let none : 0 - suc k ≡ 0 = omega arith in ap (λ m. replicate m 48) (sym none)
drop_zeros (suc k) (suc n) = let less : suc n - suc k ≡ n - k = omega arith in drop_zeros k n ∙ ap (λ m. replicate m 48) (sym less)

-- Twenty of them, without those in whose place digits stand.
pub zeros_left : (k m : ℕ) → 20 - m ≡ 20 - k → drop {A = ℕ} m (replicate 20 48) ≡ replicate (20 - k) 48
zeros_left k m e = drop_zeros m 20 ∙ ap (λ n. replicate n 48) e
