-- A number's decimal text is read as the number, and no other number has it.
use Rattle.std.proofs.Common.{◌≡◌, ℕ, ◌+◌, ◌<◌, ◌^◌, Bool, true, false, cond, length, get_or, map, List, [], ◌∷◌, Some, refl, sym, ap, ◌∙◌, arith, rules}
use Rattle.std.specs.Prelude.{nat_eq, nat_lt}
use Rattle.std.specs.List.{list_all}
use Rattle.std.specs.Char.{is_ascii_digit}
use Rattle.std.specs.Fmt.{decimal}
use Rattle.std.specs.Str.Parse.{digits_value}
use Rattle.std.specs.Int.Digits.{AllBelowBase, digits_of}
use Rattle.std.proofs.lemmas.Int.Digits.{all_below_base_digits_of, first_digits_of, same_from_digits_of}
use Rattle.std.proofs.lemmas.Fmt.{decimal-digits_of, decimal_digit, digits_decimal, digits_value-decimal, decimal_nonempty}
use Rattle.std.proofs.lemmas.Str.Parse.{IsNumeralModel, IsDigitsTest, numerals_by_value}
use Rattle.std.proofs.lemmas.Bool.Decides.{nat_tests}
use Rattle.gx_model.specs.Texts.{Bytes}
use Rattle.gx_model.specs.Texts.Numbers.{decimal_of, number_text}

abbrev pub AreDigits : Bytes → Type 0
AreDigits ds = list_all is_ascii_digit ds ≡ true

tells : IsDigitsTest AreDigits
tells = search rules

-- digits and their value are those of std's numerals
pub numerals : IsNumeralModel AreDigits (digits_value 10)
numerals = numerals_by_value AreDigits tells

pub decimal_digits : (n : ℕ) → n < 2 ^ 64 → AreDigits (decimal n)
decimal_digits n h = digits_decimal numerals n h

pub decimal_read : (n : ℕ) → n < 2 ^ 64 → decimal_of (decimal n) ≡ Some n
decimal_read n h =
    let v : digits_value 10 (decimal n) ≡ n = digits_value-decimal numerals n h in
    let a : nat_lt 0 (length (decimal n)) ≡ true = let k = decimal_nonempty n h in grind (arith, nat_tests) in
    let b : nat_lt (digits_value 10 (decimal n)) (2 ^ 64) ≡ true = grind (arith, nat_tests) in
    rw (decimal_digits n h, a, b, v) refl

-- ---- without a bound

-- below 2^64 it is the library's decimal text
pub text_is_decimal : (n : ℕ) → n < 2 ^ 64 → number_text n ≡ decimal n
unfolding number_text
text_is_decimal n small =
    elim (nat_eq n 0) as (λ b. nat_eq n 0 ≡ b → cond b (48 ∷ []) (map (λ d. 48 + d) (digits_of 10 n)) ≡ decimal n) [
      | true ↦ λ e. let z : n ≡ 0 = grind (arith, nat_tests) in sym (ap decimal z ∙ decimal_digit 0 (omega arith))
      | false ↦ λ e. let some : 0 < n = grind (arith, nat_tests) in sym (decimal-digits_of n some small)
    ] refl

digit_text : (d : ℕ) → d < 10 → is_ascii_digit (48 + d) ≡ true
digit_text d l = grind (arith, nat_tests)

each_digit : (ds : List ℕ) → AllBelowBase 10 ds → AreDigits (map (λ d. 48 + d) ds)
each_digit [] h = refl
each_digit (d ∷ ds) h = rw (digit_text d h.0) (each_digit ds h.1)

-- it has digits alone
pub text_digits : (n : ℕ) → AreDigits (number_text n)
unfolding number_text
text_digits n =
    elim (nat_eq n 0) as (λ b. AreDigits (cond b (48 ∷ []) (map (λ d. 48 + d) (digits_of 10 n)))) [
      | true ↦ refl
      | false ↦ each_digit (digits_of 10 n) (all_below_base_digits_of 10 n (omega arith))
    ]

same_digits : (xs ys : List ℕ) → map (λ d. 48 + d) xs ≡ map (λ d. 48 + d) ys → xs ≡ ys
same_digits [] [] e = refl
same_digits [] (y ∷ ys) e = absurd cc
same_digits (x ∷ xs) [] e = absurd cc
same_digits (x ∷ xs) (y ∷ ys) e =
    let head : 48 + x ≡ 48 + y = cc in
    let tail : map (λ d. 48 + d) xs ≡ map (λ d. 48 + d) ys = cc in
    let one : x ≡ y = omega arith in
    λ i. one i ∷ same_digits xs ys tail i

-- the digits of a number that isn't zero don't begin with zero
no_zero : (ds : List ℕ) → 0 < get_or ds 0 0 → (let zero : List ℕ = 48 ∷ [] in zero) ≡ map (λ d. 48 + d) ds → ⊥
no_zero [] h e = absurd (omega (arith, h))
no_zero (d ∷ ds) h e = let head : 48 ≡ 48 + d = cc in absurd (omega (arith, h, head))

-- no two numbers have one text
pub text_one : (m n : ℕ) → number_text m ≡ number_text n → m ≡ n
unfolding number_text
text_one m n = by (nat_eq m 0) (nat_eq n 0) refl refl
  where
    by : (a b : Bool) → nat_eq m 0 ≡ a → nat_eq n 0 ≡ b → cond a (48 ∷ []) (map (λ d. 48 + d) (digits_of 10 m)) ≡ cond b (48 ∷ []) (map (λ d. 48 + d) (digits_of 10 n)) → m ≡ n
    by true true f g e = grind (arith, nat_tests)
    by true false f g e = let some : 0 < n = grind (arith, nat_tests) in absurd (no_zero (digits_of 10 n) (first_digits_of 10 n (omega arith) some) e)
    by false true f g e = let some : 0 < m = grind (arith, nat_tests) in absurd (no_zero (digits_of 10 m) (first_digits_of 10 m (omega arith) some) (sym e))
    by false false f g e = same_from_digits_of 10 m n (omega arith) (same_digits (digits_of 10 m) (digits_of 10 n) e)
