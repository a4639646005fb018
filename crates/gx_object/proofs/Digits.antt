-- Digits: what the crate `hex` writes and reads is what the definitions say.
use Rattle.std.proofs.Common.{◌≡◌, ℕ, zero, suc, ◌+◌, ◌-◌, ◌*◌, ◌<◌, ◌/◌, ◌%◌, Bool, true, false, cond, refl, sym, ap, ◌∙◌, arith, [], ◌∷◌, ◌++◌, length, take, get_or, map, Ok, Err, Some, None, Result, is_some}
use Rattle.std.specs.Prelude.{nat_le, nat_eq, slice_index, ◌&&◌, ◌||◌, IsOk}
use Rattle.std.specs.List.{list_all, AllPass}
use Rattle.std.specs.Result.{result_ok}
use Rattle.std.proofs.Math.Nat.{mul_comm}
use Rattle.std.proofs.lemmas.Bool.{false≢true, and_from, and_parts, and_right, eq-eqb, eqb-true, ne_eqb}
use Rattle.std.proofs.lemmas.Bool.Decides.{nat_tests}
use Rattle.std.proofs.lemmas.List.Sums.{list_all-from_AllPass}
use Rattle.hex.specs.Hex.{encode_with, encode_lower, lower_digits, decode_pairs, decode_sized, hex_digit_value, is_hex_digit}
use Rattle.hex.specs.declared.error.FromHexError.{FromHexError}
use Rattle.hex.proofs.HexLemmas.{decode_of-even, decode_sized-twice, IsOk-decode_sized}
use Rattle.gx_model.specs.Texts.{Bytes}
use Rattle.gx_model.specs.Texts.Digits.{is_any_digit, is_lower_digit, lower}
use Rattle.gx_model.specs.Objects.{hex, hex_digit, digit_value, unhex}
use Rattle.gx_model.specs.Objects.Naming.{name_in, lower_name_in}
use Rattle.gx_model.proofs.ObjectTexts.NameDigits.{AreBytes}

same_digit : (n : ℕ) → n < 16 → hex_digit n ≡ slice_index lower_digits n
same_digit zero h = refl
same_digit (suc zero) h = refl
same_digit (suc (suc zero)) h = refl
same_digit (suc (suc (suc zero))) h = refl
same_digit (suc (suc (suc (suc zero)))) h = refl
same_digit (suc (suc (suc (suc (suc zero))))) h = refl
same_digit (suc (suc (suc (suc (suc (suc zero)))))) h = refl
same_digit (suc (suc (suc (suc (suc (suc (suc zero))))))) h = refl
same_digit (suc (suc (suc (suc (suc (suc (suc (suc zero)))))))) h = refl
same_digit (suc (suc (suc (suc (suc (suc (suc (suc (suc zero))))))))) h = refl
same_digit (suc (suc (suc (suc (suc (suc (suc (suc (suc (suc zero)))))))))) h = refl
same_digit (suc (suc (suc (suc (suc (suc (suc (suc (suc (suc (suc zero))))))))))) h = refl
same_digit (suc (suc (suc (suc (suc (suc (suc (suc (suc (suc (suc (suc zero)))))))))))) h = refl
same_digit (suc (suc (suc (suc (suc (suc (suc (suc (suc (suc (suc (suc (suc zero))))))))))))) h = refl
same_digit (suc (suc (suc (suc (suc (suc (suc (suc (suc (suc (suc (suc (suc (suc zero)))))))))))))) h = refl
same_digit (suc (suc (suc (suc (suc (suc (suc (suc (suc (suc (suc (suc (suc (suc (suc zero))))))))))))))) h = refl
same_digit (suc (suc (suc (suc (suc (suc (suc (suc (suc (suc (suc (suc (suc (suc (suc (suc n)))))))))))))))) h = absurd (omega arith)

pub hex_is : (x : Bytes) → AreBytes x → encode_lower x ≡ hex x
unfolding encode_with
hex_is [] h = refl
hex_is (b ∷ x) h =
    let small : b < 256 = h 0 in
    let high = same_digit (b / 16) (omega arith) in
    let low = same_digit (b % 16) (omega arith) in
    let rest = hex_is x (λ i. h (suc i)) in
    λ i. sym high i ∷ sym low i ∷ rest i

-- ---- reading

is_digit : (c : ℕ) → is_hex_digit c ≡ is_any_digit c
is_digit c = by (nat_le 65 c && nat_le c 70) (nat_le 97 c && nat_le c 102) (nat_le 48 c && nat_le c 57)
  where
    by : (upper lower figure : Bool) → is_some (cond upper (Some (c - 55)) (cond lower (Some (c - 87)) (cond figure (Some (c - 48)) None))) ≡ (figure || lower || upper)
    by true true true = refl
    by true true false = refl
    by true false true = refl
    by true false false = refl
    by false true true = refl
    by false true false = refl
    by false false true = refl
    by false false false = refl

value_is : (c : ℕ) → is_any_digit c ≡ true → hex_digit_value c ≡ Some (digit_value (lower c))
value_is c h = grind (arith, nat_tests)

all_digits : (x : Bytes) → list_all is_any_digit x ≡ list_all is_hex_digit x
all_digits [] = refl
all_digits (c ∷ x) = λ i. sym (is_digit c) i && all_digits x i

pairs_are : (i : ℕ) (x : Bytes) → length x % 2 ≡ 0 → list_all is_any_digit x ≡ true → decode_pairs i x ≡ Ok (unhex (map lower x))
unfolding decode_pairs
pairs_are i [] even h = refl
pairs_are i (a ∷ []) even h = absurd (omega arith)
pairs_are i (a ∷ b ∷ x) even h =
    let p = and_parts (is_any_digit a) _ h in
    let q = and_parts (is_any_digit b) _ p.1 in
    let rest = pairs_are (i + 2) x (omega arith) q.1 in
    let whole = mul_comm (digit_value (lower a)) 16 in
    rw (value_is a p.0, value_is b q.0, rest, whole) refl

some_read : (x : Bytes) (b : Bool) → (nat_eq (length x) 40 && list_all is_any_digit x) ≡ b → result_ok (decode_sized x 20) ≡ cond b (Some (unhex (map lower x))) None
some_read x true h =
    let p = and_parts (nat_eq (length x) 40) _ h in
    let long = eqb-true _ _ p.0 in
    ap result_ok (decode_sized-twice x 20 (omega arith) ∙ decode_of-even x (omega arith) ∙ pairs_are 0 x (omega arith) p.1)
some_read x false h = refused (decode_sized x 20) (λ ok. (IsOk-decode_sized x 20).0 ok)
  where
    refused : (r : Result Bytes FromHexError) → (IsOk r → (length x ≡ 40) × AllPass is_hex_digit x) → result_ok r ≡ None
    refused (Ok y) both =
        let p = both refl in
        absurd (false≢true (sym h ∙ and_from _ _ (eq-eqb (length x) 40 p.0) (all_digits x ∙ list_all-from_AllPass is_hex_digit x p.1)))
    refused (Err e) both = refl

pub name_read : (x : Bytes) → result_ok (decode_sized x 20) ≡ name_in x
unfolding name_in
name_read x = some_read x (nat_eq (length x) 40 && list_all is_any_digit x) refl

-- ---- reading lower case alone

pub long_refused : (x : Bytes) → (length x ≡ 40 → ⊥) → lower_name_in x ≡ None
unfolding lower_name_in
long_refused x h = rw (ne_eqb (length x) 40 h) refl

pub other_refused : (x : Bytes) → list_all is_lower_digit x ≡ false → lower_name_in x ≡ None
unfolding lower_name_in
other_refused x h = rw (and_right (nat_eq (length x) 40) _ h) refl

pub lower_read : (x : Bytes) → length x ≡ 40 → list_all is_lower_digit x ≡ true → lower_name_in x ≡ Some (unhex x)
unfolding lower_name_in
lower_read x long h = rw (and_from _ _ (eq-eqb (length x) 40 long) h) refl

twice : ℕ → ℕ
twice zero = zero
twice (suc n) = suc (suc (twice n))

twice_is : (n : ℕ) → twice n ≡ 2 * n
unfolding twice
twice_is zero = refl
twice_is (suc n) = let before = twice_is n in omega (arith, before)

pair_more : (n : ℕ) (x : Bytes) → twice n + 1 < length x
    → unhex (take (suc (suc (twice n))) x) ≡ unhex (take (twice n) x) ++ (16 * digit_value (get_or x (twice n) 0) + digit_value (get_or x (suc (twice n)) 0)) ∷ []
unfolding twice
pair_more zero [] lt = absurd (omega (arith, lt))
pair_more zero (a ∷ []) lt = absurd (omega (arith, lt))
pair_more zero (a ∷ b ∷ x) lt = refl
pair_more (suc n) [] lt = absurd (omega (arith, lt))
pair_more (suc n) (a ∷ []) lt = absurd (omega (arith, lt))
pair_more (suc n) (a ∷ b ∷ x) lt = ap (λ t. (16 * digit_value a + digit_value b) ∷ t) (pair_more n x (omega (arith, lt)))

-- the bytes of two digits more
pub unhex_more : (n : ℕ) (x : Bytes) → 2 * n + 1 < length x
    → unhex (take (2 * (n + 1)) x) ≡ unhex (take (2 * n) x) ++ (16 * digit_value (get_or x (2 * n) 0) + digit_value (get_or x (2 * n + 1) 0)) ∷ []
unhex_more n x lt =
    let at = twice_is n in
    let more : suc (suc (twice n)) ≡ 2 * (n + 1) = omega (arith, at) in
    let odd : suc (twice n) ≡ 2 * n + 1 = omega (arith, at) in
    ap (λ k. unhex (take k x)) (sym more) ∙ pair_more n x (omega (arith, at, lt)) ∙ (λ i. unhex (take (at i) x) ++ (16 * digit_value (get_or x (at i) 0) + digit_value (get_or x (odd i) 0)) ∷ [])
