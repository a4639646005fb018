-- The bytes of digits, two digits at a time.
use Rattle.std.proofs.Common.{◌≡◌, ℕ, zero, suc, ◌+◌, ◌*◌, ◌<◌, refl, sym, ap, ◌∙◌, arith, [], ◌∷◌, ◌++◌, length, take, get_or}
use Rattle.gx_model.specs.Texts.{Bytes}
use Rattle.gx_model.specs.Objects.{digit_value, unhex}

twice : ℕ → ℕ
twice zero = zero
twice (suc n) = suc (suc (twice n))

twice_is : (n : ℕ) → twice n ≡ 2 * n
unfolding twice
twice_is zero = refl
twice_is (suc n) = let before = twice_is n in omega (arith, before)

pair_more : (n : ℕ) (x : Bytes) → twice n + 1 < length x
    → unhex (take (suc (suc (twice n))) x) ≡ unhex (take (twice n) x) ++ (16 * digit_value (get_or x (twice n) 0) + digit_value (get_or x (suc (twice n)) 0)) ∷ []
unfolding twice
pair_more zero [] lt = absurd (omega (arith, lt))
pair_more zero (a ∷ []) lt = absurd (omega (arith, lt))
pair_more zero (a ∷ b ∷ x) lt = refl
pair_more (suc n) [] lt = absurd (omega (arith, lt))
pair_more (suc n) (a ∷ []) lt = absurd (omega (arith, lt))
pair_more (suc n) (a ∷ b ∷ x) lt = ap (λ t. (16 * digit_value a + digit_value b) ∷ t) (pair_more n x (omega (arith, lt)))

-- the bytes of two digits more
pub unhex_more : (n : ℕ) (x : Bytes) → 2 * n + 1 < length x
    → unhex (take (2 * (n + 1)) x) ≡ unhex (take (2 * n) x) ++ (16 * digit_value (get_or x (2 * n) 0) + digit_value (get_or x (2 * n + 1) 0)) ∷ []
unhex_more n x lt =
    let at = twice_is n in
    let more : suc (suc (twice n)) ≡ 2 * (n + 1) = omega (arith, at) in
    let odd : suc (twice n) ≡ 2 * n + 1 = omega (arith, at) in
    ap (λ k. unhex (take k x)) (sym more) ∙ pair_more n x (omega (arith, at, lt)) ∙ (λ i. unhex (take (at i) x) ++ (16 * digit_value (get_or x (at i) 0) + digit_value (get_or x (odd i) 0)) ∷ [])
