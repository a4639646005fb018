-- Numbers without leading zeros: those whose text is the decimal text of their value.
use Rattle.std.proofs.Common.{◌≡◌, ℕ, ◌<◌, ◌≤◌, ◌^◌, Bool, true, false, cond, [], ◌∷◌, length, get_or, Option, Some, None, refl, sym, ap, ◌∙◌, arith, ⊎_elim}
use Rattle.std.specs.Prelude.{◌&&◌, nat_eq, nat_lt}
use Rattle.std.specs.Fmt.{decimal}
use Rattle.std.specs.List.{list_all, starts_with}
use Rattle.std.specs.Char.{is_ascii_digit}
use Rattle.std.specs.Option.{option_and_then}
use Rattle.std.specs.Str.Parse.{digits_value}
use Rattle.std.specs.Cmp.Lexicographic.{bytes_decides}
use Rattle.std.proofs.lemmas.Bool.{and_from, and_parts, cases_lt, false_from_ne_true, false≢true}
use Rattle.std.proofs.lemmas.Bool.Decides.{nat_tests}
use Rattle.std.proofs.lemmas.Fmt.{decimal-digits_value, decimal_digit, first_decimal}
use Rattle.gx_model.specs.Texts.{Bytes, same_bytes}
use Rattle.gx_model.specs.Texts.Numbers.{decimal_of, is_number}
use Rattle.gx_model.specs.Stores.StoreReading.{if_written_so, stored_number}
use Rattle.gx_model.proofs.Texts.Decimals.{numerals}

-- A text that begins with a zero has it as its first byte.
zero_is_first : (x : Bytes) → starts_with nat_eq x (48 ∷ []) ≡ true → get_or x 0 0 ≡ 48
zero_is_first [] h = absurd (false≢true h)
zero_is_first (c ∷ cs) h = let p = (and_parts (nat_eq 48 c) true h).0 in grind (arith, nat_tests)

-- A text whose first byte is a zero begins with one.
first_is_zero : (x : Bytes) → 0 < length x → get_or x 0 0 ≡ 48 → starts_with nat_eq x (48 ∷ []) ≡ true
first_is_zero [] h e = absurd (omega arith)
first_is_zero (c ∷ cs) h e = ap (λ d. nat_eq 48 d && true) e

-- The tests of a number, one by one.
record HasDigits (x : Bytes) : Type 0 where
  digits : list_all is_ascii_digit x ≡ true
  some : 0 < length x
  small : digits_value 10 x < 2 ^ 64

-- A number passes each of them.
has_digits : (x : Bytes) → is_number x ≡ true → HasDigits x
has_digits x h =
    let p = and_parts (list_all is_ascii_digit x && nat_lt 0 (length x)) _ h in
    let q = and_parts (list_all is_ascii_digit x) _ p.0 in
    record { digits = q.0; some = grind (arith, nat_tests); small = grind (arith, nat_tests) }

-- A number without a leading zero is the decimal text of its value.
written_so : (x : Bytes) → HasDigits x → (get_or x 0 0 ≡ 48 → length x ≡ 1) → same_bytes (decimal (digits_value 10 x)) x ≡ true
written_so x h one = (bytes_decides (decimal (digits_value 10 x)) x).1 (decimal-digits_value numerals x h.digits h.some one h.small)

-- The decimal text of a number has no leading zero but that of zero.
no_zero : (n : ℕ) (x : Bytes) → n < 2 ^ 64 → decimal n ≡ x → 1 < length x → get_or x 0 0 ≡ 48 → ⊥
no_zero n x small e long zero = ⊎_elim
    (λ some. let f = first_decimal n some small in let g = ap (λ d. get_or d 0 0) e in absurd (omega arith))
    (λ none.
    let is : n ≡ 0 = omega arith in
    let one = ap length (sym (decimal_digit 0 (omega arith)) ∙ ap decimal (sym is) ∙ e) in
    absurd (omega arith))
    (cases_lt 0 n)

-- A longer number with a leading zero isn't the decimal text of its value.
not_written_so : (x : Bytes) → HasDigits x → 1 < length x → get_or x 0 0 ≡ 48 → same_bytes (decimal (digits_value 10 x)) x ≡ false
not_written_so x h long zero =
    false_from_ne_true _ (λ same. no_zero (digits_value 10 x) x h.small ((bytes_decides (decimal (digits_value 10 x)) x).0 same) long zero)

-- whether a text is longer than a leading zero
abbrev leads_with_zero : Bytes → Bool
leads_with_zero x = nat_lt 1 (length x) && starts_with nat_eq x (48 ∷ [])

-- A text without a leading zero that is longer than nothing has one byte where that is a zero.
is_zero_alone : (x : Bytes) → leads_with_zero x ≡ false → 0 < length x → get_or x 0 0 ≡ 48 → length x ≡ 1
is_zero_alone x h some zero =
    let starts = first_is_zero x some zero in
    let short = false_from_ne_true (nat_lt 1 (length x)) (λ long. false≢true (sym h ∙ and_from _ _ long starts)) in
    grind (arith, nat_tests)

-- A text is a number without leading zeros where it is one and has none.
pub number_read : (x : Bytes) → stored_number x ≡ cond (leads_with_zero x) None (decimal_of x)
number_read x = by (is_number x) refl
  where
    tested : (t : Bool) → ◌≡◌ {A = Option ℕ} None (cond t None None)
    tested true = refl
    tested false = refl

    alone : HasDigits x → (t : Bool) → leads_with_zero x ≡ t → if_written_so x (digits_value 10 x) ≡ cond t None (Some (digits_value 10 x))
    alone h true f =
        let p = and_parts (nat_lt 1 (length x)) _ f in
        let long : 1 < length x = grind (arith, nat_tests) in
        ap (λ b. cond b (Some (digits_value 10 x)) None) (not_written_so x h long (zero_is_first x p.1))
    alone h false f = ap (λ b. cond b (Some (digits_value 10 x)) None) (written_so x h (is_zero_alone x f h.some))

    by : (b : Bool) → is_number x ≡ b → option_and_then (if_written_so x) (cond b (Some (digits_value 10 x)) None) ≡ cond (leads_with_zero x) None (cond b (Some (digits_value 10 x)) None)
    by false e = tested (leads_with_zero x)
    by true e = alone (has_digits x e) (leads_with_zero x) refl

-- A longer text with a leading zero is no number.
pub led_by_zero : (x : Bytes) → 1 < length x → starts_with nat_eq x (48 ∷ []) ≡ true → None ≡ stored_number x
led_by_zero x long e =
    let more : nat_lt 1 (length x) ≡ true = grind (arith, nat_tests) in
    sym (number_read x ∙ ap (λ t. cond t None (decimal_of x)) (and_from _ _ more e))

-- Zeros don't lead a text of one byte.
pub short_number : (x : Bytes) → length x ≤ 1 → decimal_of x ≡ stored_number x
short_number x le =
    let no_more : nat_lt 1 (length x) ≡ false = grind (arith, nat_tests) in
    sym (number_read x ∙ ap (λ t. cond (t && starts_with nat_eq x (48 ∷ [])) None (decimal_of x)) no_more)

-- A text that doesn't begin with a zero is the number that its digits write.
pub plain_number : (x : Bytes) → starts_with nat_eq x (48 ∷ []) ≡ false → decimal_of x ≡ stored_number x
plain_number x e = sym (number_read x ∙ ap (λ t. cond t None (decimal_of x)) (false_from_ne_true _ (λ h. false≢true (sym e ∙ (and_parts (nat_lt 1 (length x)) _ h).1))))
