-- What `parse` reads, in the words of `decimal_of`.
use Rattle.std.proofs.Common.{◌≡◌, ℕ, ◌^◌, ◌<◌, true, false, List, length, None, Result, Ok, Err, refl, arith, rules}
use Rattle.std.specs.Prelude.{nat_lt}
use Rattle.std.specs.Char.{is_ascii_digit}
use Rattle.std.specs.List.{list_all}
use Rattle.std.specs.Result.{OkIff, result_ok, MatchResult}
use Rattle.std.specs.Str.{IsUtf8}
use Rattle.std.specs.Str.Parse.{digits_value, ParsesUnsigned}
use Rattle.std.proofs.lemmas.Str.Parse.{IsNumeralModel, IsDigitsTest, numerals_by_value, parse_digits, digit_at}
use Rattle.std.proofs.lemmas.Str.{IsUtf8-from_ascii}
use Rattle.std.proofs.lemmas.Str.Ascii.{IsAscii-from_reads}
use Rattle.std.proofs.lemmas.Bool.Decides.{nat_tests}
use Rattle.gx_model.specs.Texts.Numbers.{decimal_of}

abbrev pub AreDigits : List ℕ → Type 0
AreDigits ds = list_all is_ascii_digit ds ≡ true

tells : IsDigitsTest AreDigits
tells = search rules

pub own : IsNumeralModel AreDigits (digits_value 10)
own = numerals_by_value AreDigits tells

pub not_digits : (ds : List ℕ) → list_all is_ascii_digit ds ≡ false → None ≡ decimal_of ds
not_digits ds e = rw e refl

pub digits_are_text : (ds : List ℕ) → AreDigits ds → IsUtf8 ds
digits_are_text ds h = IsUtf8-from_ascii ds (IsAscii-from_reads ds (length ds) (omega arith) (λ k lt. let r = digit_at ds k (own.to ds h) lt in omega (arith, r)))

no_number : (ds : List ℕ) → ¬ ((0 < length ds) × (digits_value 10 ds < 2 ^ 64)) → None ≡ decimal_of ds
no_number ds h = grind (arith, nat_tests)

-- what is text is read as text
pub is_text : {T E : Type 0} (r : Result T E) (U : Type 0) (P : T → Type 0) (Q : E → Type 0) → MatchResult r P (λ e. ¬ U × Q e) → U → result_ok r ≡ None → ⊥
is_text (Ok x) U P Q h u e = cc
is_text (Err d) U P Q h u e = h.0 u

read_ok : {E : Type 0} (ds : List ℕ) (r : Result ℕ E) → OkIff r ((0 < length ds) × (digits_value 10 ds < 2 ^ 64)) (digits_value 10 ds) → AreDigits ds → result_ok r ≡ decimal_of ds
read_ok ds (Ok x) p h =
    let a : nat_lt 0 (length ds) ≡ true = grind (arith, nat_tests) in
    let b : nat_lt (digits_value 10 ds) (2 ^ 64) ≡ true = grind (arith, nat_tests) in
    rw (h, a, b, p.1) refl
read_ok ds (Err e) p h = no_number ds p

pub read : {E : Type 0} (ds : List ℕ) (r : Result ℕ E) → AreDigits ds → ParsesUnsigned 64 10 ds r → result_ok r ≡ decimal_of ds
read ds r h p = read_ok ds r (parse_digits own 64 ds r p h) h
