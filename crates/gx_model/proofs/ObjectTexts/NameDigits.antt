-- Names and their digits.
use Rattle.std.proofs.Common.{◌≡◌, ℕ, zero, suc, ◌+◌, ◌<◌, ◌/◌, ◌%◌, ◌*◌, Bool, true, false, cond, refl, sym, ap, ◌∙◌, arith, [], ◌∷◌, length, Some, None, subst, not}
use Rattle.std.specs.Prelude.{nat_lt, nat_eq, slice_index, IsTrue}
use Rattle.std.specs.Bool.{passes}
use Rattle.std.specs.List.{list_all}
use Rattle.std.proofs.lemmas.Bool.{and_from, and_parts, lt-ltb, eq-eqb, eqb-true, ltb-true}
use Rattle.std.proofs.lemmas.Bool.Decides.{nat_tests}
use Rattle.gx_model.specs.Texts.{Bytes, is_line}
use Rattle.gx_model.specs.Texts.Digits.{is_lower_digit, is_name_text}
use Rattle.gx_model.specs.Objects.{hex, hex_digit, is_name, digit_value, unhex}
use Rattle.gx_model.specs.Objects.Naming.{lower_name_in}
use Rattle.gx_model.proofs.ObjectTexts.BodiesReadBack.{unhex_hex}

abbrev pub AreBytes : Bytes → Type 0
AreBytes x = (i : ℕ) → slice_index x i < 256

pub all_bytes : (x : Bytes) → AreBytes x → list_all (λ b. nat_lt b 256) x ≡ true
all_bytes [] h = refl
all_bytes (b ∷ x) h = and_from _ _ (lt-ltb b 256 (h 0)) (all_bytes x (λ i. h (suc i)))

pub is_name_from : (x : Bytes) → length x ≡ 20 → AreBytes x → IsTrue (is_name x)
is_name_from x e h = and_from _ _ (eq-eqb (length x) 20 e) (all_bytes x h)

digit_again : (d : ℕ) → is_lower_digit d ≡ true → hex_digit (digit_value d) ≡ d
digit_again d h = grind (arith, nat_tests)

small_digit : (d : ℕ) → is_lower_digit d ≡ true → digit_value d < 16
small_digit d h = grind (arith, nat_tests)

is_lower : (n : ℕ) → n < 16 → is_lower_digit (hex_digit n) ≡ true
is_lower n h = grind (arith, nat_tests)

pub hex_unhex : (x : Bytes) → length x % 2 ≡ 0 → list_all is_lower_digit x ≡ true → hex (unhex x) ≡ x
hex_unhex [] even h = refl
hex_unhex (a ∷ []) even h = absurd (omega arith)
hex_unhex (a ∷ b ∷ x) even h =
    let p = and_parts (is_lower_digit a) _ h in
    let q = and_parts (is_lower_digit b) _ p.1 in
    let high = small_digit a p.0 in
    let low = small_digit b q.0 in
    let whole : (16 * digit_value a + digit_value b) / 16 ≡ digit_value a = omega arith in
    let part : (16 * digit_value a + digit_value b) % 16 ≡ digit_value b = omega arith in
    let first = ap hex_digit whole ∙ digit_again a p.0 in
    let second = ap hex_digit part ∙ digit_again b q.0 in
    let rest = hex_unhex x (omega arith) q.1 in
    λ i. first i ∷ second i ∷ rest i

unhex_long : (n : ℕ) (x : Bytes) → length x ≡ 2 * n → length (unhex x) ≡ n
unhex_long zero [] e = refl
unhex_long (suc n) [] e = absurd (omega arith)
unhex_long zero (a ∷ x) e = absurd (omega arith)
unhex_long (suc n) (a ∷ []) e = absurd (omega arith)
unhex_long (suc n) (a ∷ b ∷ x) e = ap suc (unhex_long n x (omega arith))

unhex_small : (x : Bytes) → list_all is_lower_digit x ≡ true → list_all (λ b. nat_lt b 256) (unhex x) ≡ true
unhex_small [] h = refl
unhex_small (a ∷ []) h = refl
unhex_small (a ∷ b ∷ x) h =
    let p = and_parts (is_lower_digit a) _ h in
    let q = and_parts (is_lower_digit b) _ p.1 in
    let high = small_digit a p.0 in
    let low = small_digit b q.0 in
    and_from _ _ (lt-ltb _ 256 (omega arith)) (unhex_small x q.1)

pub hex_long : (x : Bytes) → length (hex x) ≡ 2 * length x
hex_long [] = refl
hex_long (b ∷ x) = let rest = hex_long x in omega arith

pub hex_lower : (x : Bytes) → list_all (λ b. nat_lt b 256) x ≡ true → list_all is_lower_digit (hex x) ≡ true
hex_lower [] h = refl
hex_lower (b ∷ x) h =
    let p = and_parts (nat_lt b 256) _ h in
    let small = ltb-true b 256 p.0 in
    and_from _ _ (is_lower (b / 16) (omega arith)) (and_from _ _ (is_lower (b % 16) (omega arith)) (hex_lower x p.1))

-- what is read is a name, and its digits were there
pub name_found : (x n : Bytes) → lower_name_in x ≡ Some n → (x ≡ hex n) × (is_name n ≡ true)
unfolding lower_name_in
name_found x n e = by (is_name_text x) refl e
  where
    by : (b : Bool) → is_name_text x ≡ b → cond b (Some (unhex x)) None ≡ Some n → (x ≡ hex n) × (is_name n ≡ true)
    by false h f = cc
    by true h f =
        let p = and_parts (nat_eq (length x) 40) _ h in
        let long = eqb-true _ _ p.0 in
        let is : unhex x ≡ n = cc in
        subst (λ y. (x ≡ hex y) × (is_name y ≡ true)) is
        (sym (hex_unhex x (omega arith) p.1), and_from _ _ (eq-eqb (length (unhex x)) 20 (unhex_long 20 x (omega arith))) (unhex_small x p.1))

-- the digits of a name are read as it
pub name_again : (n : Bytes) → is_name n ≡ true → lower_name_in (hex n) ≡ Some n
unfolding lower_name_in
name_again n h =
    let p = and_parts (nat_eq (length n) 20) _ h in
    let long = eqb-true _ _ p.0 in
    let digits = hex_long n in
    let text : is_name_text (hex n) ≡ true = and_from _ _ (eq-eqb (length (hex n)) 40 (omega arith)) (hex_lower n p.1) in
    rw text (ap Some (unhex_hex n (passes _ p.1)))

pub name_long : (n : Bytes) → is_name n ≡ true → length (hex n) ≡ 40
name_long n h =
    let long = eqb-true _ _ (and_parts (nat_eq (length n) 20) _ h).0 in
    let digits = hex_long n in
    omega arith

not_lf : (d : ℕ) → is_lower_digit d ≡ true → not (nat_eq d 10) ≡ true
not_lf d h = grind (arith, nat_tests)

lower_line : (x : Bytes) → list_all is_lower_digit x ≡ true → is_line x ≡ true
lower_line [] h = refl
lower_line (d ∷ x) h = let p = and_parts (is_lower_digit d) _ h in and_from _ _ (not_lf d p.0) (lower_line x p.1)

pub name_line : (n : Bytes) → is_name n ≡ true → is_line (hex n) ≡ true
name_line n h = lower_line (hex n) (hex_lower n (and_parts (nat_eq (length n) 20) _ h).1)
