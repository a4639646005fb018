-- Digits that are filled up to a name.
use Rattle.std.proofs.Common.{◌≡◌, ℕ, zero, suc, ◌-◌, ◌≤◌, Bool, true, false, cond, refl, sym, ap, ◌∙◌, arith, [], ◌∷◌, ◌++◌, length, map, Some, None}
use Rattle.std.specs.Prelude.{nat_le, nat_lt, nat_eq, replicate, ◌&&◌}
use Rattle.std.specs.List.{list_all, starts_with}
use Rattle.std.proofs.lemmas.Bool.{and_from, and_parts, eqb-true, eq-eqb, false≢true, false_from_ne_true, leb-true, le-leb}
use Rattle.std.proofs.lemmas.Bool.Decides.{nat_tests}
use Rattle.std.proofs.lemmas.List.{map-append, length-append, length-map, length-replicate}
use Rattle.std.proofs.lemmas.List.Folds.{list_all-append}
use Rattle.gx_model.specs.Texts.{Bytes, byte_cmp}
use Rattle.gx_model.specs.Texts.Digits.{is_any_digit, is_lower_digit, lower}
use Rattle.gx_model.specs.Objects.{hex, unhex, is_name}
use Rattle.gx_model.specs.Objects.Naming.{lower_name_in, name_in}
use Rattle.gx_model.specs.Revisions.Denotation.{begins_with_digits}
use Rattle.gx_model.proofs.ObjectTexts.NameDigits.{hex_lower, name_found, name_long}
use Rattle.gx_store.specs.NameOrder.{is_within}
use Rattle.gx_store.specs.Prefixes.{BeginNone, filled}
use Rattle.gx_store.proofs.NameOrder.{between, hex_order, within_filled}

map_replicate : (k digit : ℕ) → lower digit ≡ digit → map lower (replicate k digit) ≡ replicate k digit
map_replicate zero digit e = refl
map_replicate (suc k) digit e = λ i. e i ∷ map_replicate k digit e i

lower_digit : (d : ℕ) → is_any_digit d ≡ true → is_lower_digit (lower d) ≡ true
lower_digit d h = grind (arith, nat_tests)

lower_digits : (xs : Bytes) → list_all is_any_digit xs ≡ true → list_all is_lower_digit (map lower xs) ≡ true
lower_digits [] h = refl
lower_digits (x ∷ xs) h = let p = and_parts (is_any_digit x) _ h in and_from _ _ (lower_digit x p.0) (lower_digits xs p.1)

all_alike : (k digit : ℕ) → is_any_digit digit ≡ true → list_all is_any_digit (replicate k digit) ≡ true
all_alike zero digit e = refl
all_alike (suc k) digit e = and_from _ _ e (all_alike k digit e)

name_of_digits : (xs : Bytes) → length xs ≡ 40 → list_all is_lower_digit xs ≡ true → lower_name_in xs ≡ Some (unhex xs)
unfolding lower_name_in
name_of_digits xs long small = ap (λ b. cond b (Some (unhex xs)) None) (and_from _ _ (eq-eqb (length xs) 40 long) small)

-- the digits of a filled name
pub filled_digits : (digits : Bytes) (digit : ℕ) (n : Bytes) → lower digit ≡ digit → filled digits digit ≡ Some n
    → (length digits ≤ 40) × (hex n ≡ map lower digits ++ replicate (40 - length digits) digit) × (is_name n ≡ true)
unfolding filled name_in
filled_digits digits digit n e h = by (nat_le (length digits) 40) refl h
  where
    text : Bytes
    text = digits ++ replicate (40 - length digits) digit

    lowered : map lower text ≡ map lower digits ++ replicate (40 - length digits) digit
    lowered = map-append lower digits (replicate (40 - length digits) digit) ∙ ap (λ t. map lower digits ++ t) (map_replicate (40 - length digits) digit e)

    read : (b : Bool) → (nat_eq (length text) 40 && list_all is_any_digit text) ≡ b → cond b (Some (unhex (map lower text))) None ≡ Some n → (hex n ≡ map lower text) × (is_name n ≡ true)
    read false p f = cc
    read true p f =
        let q = and_parts (nat_eq (length text) 40) _ p in
        let long = length-map text lower ∙ eqb-true _ _ q.0 in
        let found = name_found (map lower text) n (name_of_digits (map lower text) long (lower_digits text q.1) ∙ f) in
        (sym found.0, found.1)

    by : (b : Bool) → nat_le (length digits) 40 ≡ b → cond b (name_in text) None ≡ Some n → (length digits ≤ 40) × (hex n ≡ map lower digits ++ replicate (40 - length digits) digit) × (is_name n ≡ true)
    by false p f = cc
    by true p f = let found = read _ refl f in (leb-true _ _ p, found.0 ∙ lowered, found.1)

-- ---- where no name comes of it, none begins so

begins_all : (xs ys : Bytes) → list_all is_lower_digit ys ≡ true → starts_with nat_eq ys (map lower xs) ≡ true → list_all is_any_digit xs ≡ true
begins_all [] ys h b = refl
begins_all (x ∷ xs) [] h b = absurd (false≢true b)
begins_all (x ∷ xs) (y ∷ ys) h b =
    let p = and_parts (is_lower_digit y) _ h in
    let q = and_parts (nat_eq (lower x) y) _ b in
    and_from _ _ (a_digit x y p.0 q.0) (begins_all xs ys p.1 q.1)
  where
    a_digit : (x y : ℕ) → is_lower_digit y ≡ true → nat_eq (lower x) y ≡ true → is_any_digit x ≡ true
    a_digit x y h e = grind (arith, nat_tests)

begins_short : (xs ys : Bytes) → starts_with nat_eq ys (map lower xs) ≡ true → length xs ≤ length ys
begins_short [] ys b = omega arith
begins_short (x ∷ xs) [] b = absurd (false≢true b)
begins_short (x ∷ xs) (y ∷ ys) b = let rest = begins_short xs ys (and_parts (nat_eq (lower x) y) _ b).1 in omega arith

pub not_filled : (digits : Bytes) (digit : ℕ) → is_any_digit digit ≡ true → filled digits digit ≡ None → BeginNone digits
unfolding filled name_in
not_filled digits digit e h n name = false_from_ne_true _ (λ b. refuted b)
  where
    text : Bytes
    text = digits ++ replicate (40 - length digits) digit

    refuted : begins_with_digits digits n ≡ true → ⊥
    refuted b =
        let small = hex_lower n (and_parts (nat_eq (length n) 20) _ name).1 in
        let short = begins_short digits (hex n) b in
        let forty = name_long n name in
        let long = length-append digits (replicate (40 - length digits) digit) in
        let rest = length-replicate (40 - length digits) digit in
        let tests : nat_eq (length text) 40 && list_all is_any_digit text ≡ true =
        and_from _ _ (eq-eqb (length text) 40 (omega arith)) (list_all-append is_any_digit digits (replicate (40 - length digits) digit) ∙ and_from _ _ (begins_all digits (hex n) small b) (all_alike (40 - length digits) digit e)) in
        let some : filled digits digit ≡ Some (unhex (map lower text)) =
        ap (λ c. cond c (name_in text) None) (le-leb (length digits) 40 (omega arith)) ∙ ap (λ c. cond c (Some (unhex (map lower text))) None) tests in
        cc

-- ---- where both ends come of it, they are the ends

pub filled_ends : (digits least greatest : Bytes) → filled digits 48 ≡ Some least → filled digits 102 ≡ Some greatest → (n : Bytes) → is_name n ≡ true → is_within least greatest n ≡ begins_with_digits digits n
filled_ends digits least greatest l g n name =
    let first = filled_digits digits 48 least refl l in
    let last = filled_digits digits 102 greatest refl g in
    let long = length-map digits lower in
    let short = first.0 in
    let from = hex_order least n (bytes least first.2) (bytes n name) in
    let to = hex_order greatest n (bytes greatest last.2) (bytes n name) in
    let forty = name_long n name in
    (λ i. between (sym from i) (sym to i)) ∙ (λ i. between (byte_cmp (first.1 i) (hex n)) (byte_cmp (last.1 i) (hex n)))
    ∙ within_filled (map lower digits) (hex n) (40 - length digits) (omega arith) (hex_lower n (bytes n name))
  where
    bytes : (m : Bytes) → is_name m ≡ true → list_all (λ byte. nat_lt byte 256) m ≡ true
    bytes m h = (and_parts (nat_eq (length m) 20) _ h).1
