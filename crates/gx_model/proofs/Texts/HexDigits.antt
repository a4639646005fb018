-- Digits tell their bytes, and bytes their digits.
use Rattle.std.proofs.Common.{◌≡◌, ℕ, ◌+◌, ◌*◌, ◌-◌, ◌/◌, ◌%◌, ◌≤◌, ◌<◌, Bool, true, false, cond, refl, sym, subst, arith, [], ◌∷◌, length, inl, inr}
use Rattle.std.specs.Prelude.{T, ◌&&◌, nat_lt, nat_le, ◌⊎◌}
use Rattle.std.specs.List.{list_all}
use Rattle.std.proofs.lemmas.Bool.Decides.{nat_tests}
use Rattle.gx_model.specs.Texts.{Bytes}
use Rattle.gx_model.specs.Texts.Digits.{is_lower_digit}
use Rattle.gx_model.specs.Objects.{hex, hex_digit, digit_value, unhex}
use Rattle.gx_model.proofs.Texts.PathTests.{first, second, is_true, one_of}

-- the byte is a lower-case digit of this value
abbrev pub IsDigit : ℕ → ℕ → Type 0
IsDigit d v = (v < 16) × (((v < 10) × (d ≡ 48 + v)) ⊎ ((10 ≤ v) × (d ≡ 87 + v)))

-- a value below 16 has a digit
pub digit_is : (n : ℕ) → n < 16 → IsDigit (hex_digit n) n
digit_is n h = by (nat_lt n 10) refl
  where
    by : (b : Bool) → nat_lt n 10 ≡ b → IsDigit (cond b (48 + n) (87 + n)) n
    by true e = (h, inl (grind (arith, nat_tests), refl))
    by false e = (h, inr (grind (arith, nat_tests), refl))

-- a lower-case digit has a value
pub value_is : (d : ℕ) → T (is_lower_digit d) → IsDigit d (digit_value d)
value_is d h = one_of _ _ h
    (λ k. by (nat_lt d 58) refl (low k))
    (λ k. by (nat_lt d 58) refl (high k))
  where
    low : T (nat_le 48 d && nat_le d 57) → ((48 ≤ d) × (d ≤ 57)) ⊎ ((97 ≤ d) × (d ≤ 102))
    low k = let a = is_true _ (first (nat_le 48 d) (nat_le d 57) k) in let b = is_true _ (second (nat_le 48 d) (nat_le d 57) k) in inl (grind (arith, nat_tests), grind (arith, nat_tests))

    high : T (nat_le 97 d && nat_le d 102) → ((48 ≤ d) × (d ≤ 57)) ⊎ ((97 ≤ d) × (d ≤ 102))
    high k = let a = is_true _ (first (nat_le 97 d) (nat_le d 102) k) in let b = is_true _ (second (nat_le 97 d) (nat_le d 102) k) in inr (grind (arith, nat_tests), grind (arith, nat_tests))

    by : (b : Bool) → nat_lt d 58 ≡ b → ((48 ≤ d) × (d ≤ 57)) ⊎ ((97 ≤ d) × (d ≤ 102)) → IsDigit d (cond b (d - 48) (d - 87))
    by true e (inl r) = (omega arith, inl (omega arith, omega arith))
    by true e (inr r) = let l : d < 58 = grind (arith, nat_tests) in absurd (omega arith)
    by false e (inl r) = let l : 58 ≤ d = grind (arith, nat_tests) in absurd (omega arith)
    by false e (inr r) = (omega arith, inr (omega arith, omega arith))

one_digit : (d v w : ℕ) → IsDigit d v → IsDigit d w → v ≡ w
one_digit d v w h g =
    elim h.1 [
      | inl a ↦ elim g.1 [ inl b ↦ omega arith | inr b ↦ absurd (omega arith) ]
      | inr a ↦ elim g.1 [ inl b ↦ absurd (omega arith) | inr b ↦ omega arith ]
    ]

digit_of : (d e v : ℕ) → IsDigit d v → IsDigit e v → d ≡ e
digit_of d e v h g =
    elim h.1 [
      | inl a ↦ elim g.1 [ inl b ↦ omega arith | inr b ↦ absurd (omega arith) ]
      | inr a ↦ elim g.1 [ inl b ↦ absurd (omega arith) | inr b ↦ omega arith ]
    ]

-- bytes are told by their digits
pub one_hex : (x y : Bytes) → T (list_all (λ b. nat_lt b 256) x) → T (list_all (λ b. nat_lt b 256) y) → hex x ≡ hex y → x ≡ y
one_hex [] [] f g e = refl
one_hex [] (b ∷ y) f g e = absurd (cc)
one_hex (a ∷ x) [] f g e = absurd (cc)
one_hex (a ∷ x) (b ∷ y) f g e =
    let s = is_true _ (first (nat_lt a 256) _ f) in
    let t = is_true _ (first (nat_lt b 256) _ g) in
    let l : a < 256 = grind (arith, nat_tests) in
    let m : b < 256 = grind (arith, nat_tests) in
    let p : hex_digit (a / 16) ≡ hex_digit (b / 16) = cc in
    let q : hex_digit (a % 16) ≡ hex_digit (b % 16) = cc in
    let r : hex x ≡ hex y = cc in
    let u : a / 16 ≡ b / 16 = one_digit (hex_digit (a / 16)) (a / 16) (b / 16) (digit_is (a / 16) (omega arith)) (subst (λ z. IsDigit z (b / 16)) (sym p) (digit_is (b / 16) (omega arith))) in
    let v : a % 16 ≡ b % 16 = one_digit (hex_digit (a % 16)) (a % 16) (b % 16) (digit_is (a % 16) (omega arith)) (subst (λ z. IsDigit z (b % 16)) (sym q) (digit_is (b % 16) (omega arith))) in
    let w : a ≡ b = omega arith in
    let rest = one_hex x y (second (nat_lt a 256) _ f) (second (nat_lt b 256) _ g) r in
    λ i. w i ∷ rest i

-- digits are told by their bytes
pub one_unhex : (x y : Bytes) → T (list_all is_lower_digit x) → T (list_all is_lower_digit y) → length x ≡ length y → length x % 2 ≡ 0 → unhex x ≡ unhex y → x ≡ y
one_unhex [] [] f g l m e = refl
one_unhex [] (b ∷ y) f g l m e = absurd (omega arith)
one_unhex (a ∷ x) [] f g l m e = absurd (omega arith)
one_unhex (a ∷ []) (b ∷ y) f g l m e = absurd (omega arith)
one_unhex (a ∷ a' ∷ x) (b ∷ []) f g l m e = absurd (omega arith)
one_unhex (a ∷ a' ∷ x) (b ∷ b' ∷ y) f g l m e =
    let f' = second (is_lower_digit a) (list_all is_lower_digit (a' ∷ x)) f in
    let g' = second (is_lower_digit b) (list_all is_lower_digit (b' ∷ y)) g in
    let va = value_is a (first (is_lower_digit a) (list_all is_lower_digit (a' ∷ x)) f) in
    let vb = value_is b (first (is_lower_digit b) (list_all is_lower_digit (b' ∷ y)) g) in
    let va' = value_is a' (first (is_lower_digit a') (list_all is_lower_digit x) f') in
    let vb' = value_is b' (first (is_lower_digit b') (list_all is_lower_digit y) g') in
    let p : 16 * digit_value a + digit_value a' ≡ 16 * digit_value b + digit_value b' = cc in
    let q : unhex x ≡ unhex y = cc in
    let s : digit_value a ≡ digit_value b = parts _ _ _ _ va.0 va'.0 vb.0 vb'.0 p in
    let t : digit_value a' ≡ digit_value b' = omega arith in
    let rest = one_unhex x y (second (is_lower_digit a') (list_all is_lower_digit x) f') (second (is_lower_digit b') (list_all is_lower_digit y) g') (omega arith) (omega arith) q in
    let u = digit_of a b (digit_value a) va (subst (IsDigit b) (sym s) vb) in
    let w = digit_of a' b' (digit_value a') va' (subst (IsDigit b') (sym t) vb') in
    λ i. u i ∷ w i ∷ rest i
  where
    parts : (v v' w w' : ℕ) → v < 16 → v' < 16 → w < 16 → w' < 16 → 16 * v + v' ≡ 16 * w + w' → v ≡ w
    parts v v' w w' h k m n e = omega arith
