-- The order of names is that of their digits, and the names that begin with some digits are those between two.
use Rattle.std.proofs.Common.{◌≡◌, ℕ, zero, suc, ◌+◌, ◌<◌, ◌≤◌, ◌/◌, ◌%◌, Bool, true, false, cond, not, ◌&&◌, refl, sym, ap, ◌∙◌, arith, [], ◌∷◌, ◌++◌, length, ◌⊎◌, inl, inr}
use Rattle.std.specs.Prelude.{nat_lt, nat_eq, replicate}
use Rattle.std.specs.Ordering.{nat_cmp, ordering_then, is_le, is_lt}
use Rattle.std.specs.declared.cmp.Ordering.{Ordering}
use Rattle.std.specs.declared.cmp.Ordering.TheVariants.{Less, Equal, Greater}
use Rattle.std.specs.Cmp.{nat_cmp_is}
use Rattle.std.specs.List.{list_all, starts_with}
use Rattle.std.proofs.lemmas.Bool.{and_parts, ltb-true}
use Rattle.std.proofs.lemmas.Bool.Decides.{nat_tests}
use Rattle.gx_model.specs.Texts.{Bytes, byte_cmp}
use Rattle.gx_model.specs.Texts.Digits.{is_lower_digit}
use Rattle.gx_model.specs.Objects.{hex, hex_digit}
use Rattle.gx_store.specs.NameOrder.{is_within}

-- one number is below another, the same or above it
pub compared : (m n : ℕ) → (m < n) ⊎ ((m ≡ n) ⊎ (n < m))
compared m n = by (nat_lt m n) (nat_lt n m) refl refl
  where
    by : (b c : Bool) → nat_lt m n ≡ b → nat_lt n m ≡ c → (m < n) ⊎ ((m ≡ n) ⊎ (n < m))
    by true c p q = inl (grind (arith, nat_tests))
    by false true p q = inr (inr (grind (arith, nat_tests)))
    by false false p q = let above : n ≤ m = grind (arith, nat_tests) in let below : m ≤ n = grind (arith, nat_tests) in inr (inl (omega arith))

pub is_less : (m n : ℕ) → m < n → nat_cmp m n ≡ Less
is_less m n h = sym (nat_cmp_is m n Less h)

pub is_equal : (m n : ℕ) → m ≡ n → nat_cmp m n ≡ Equal
is_equal m n h = sym (nat_cmp_is m n Equal h)

pub is_greater : (m n : ℕ) → n < m → nat_cmp m n ≡ Greater
is_greater m n h = sym (nat_cmp_is m n Greater h)

-- ---- digits stand in the order of their values

digit_below : (m n : ℕ) → n < 16 → m < n → hex_digit m < hex_digit n
digit_below m n h l = by (nat_lt m 10) (nat_lt n 10) refl refl
  where
    by : (b c : Bool) → nat_lt m 10 ≡ b → nat_lt n 10 ≡ c → cond b (48 + m) (87 + m) < cond c (48 + n) (87 + n)
    by true true p q = omega arith
    by true false p q = let low : m < 10 = grind (arith, nat_tests) in omega arith
    by false true p q = let low : 10 ≤ m = grind (arith, nat_tests) in let high : n < 10 = grind (arith, nat_tests) in absurd (omega arith)
    by false false p q = omega arith

digit_order : (m n : ℕ) → m < 16 → n < 16 → nat_cmp (hex_digit m) (hex_digit n) ≡ nat_cmp m n
digit_order m n h k = elim (compared m n) [
  | inl l ↦ is_less _ _ (digit_below m n k l) ∙ sym (is_less m n l)
  | inr (inl e) ↦ is_equal _ _ (ap hex_digit e) ∙ sym (is_equal m n e)
  | inr (inr l) ↦ is_greater _ _ (digit_below n m h l) ∙ sym (is_greater m n l)
]

two_digits : (m n : ℕ) → ordering_then (nat_cmp (m / 16) (n / 16)) (nat_cmp (m % 16) (n % 16)) ≡ nat_cmp m n
two_digits m n = elim (compared (m / 16) (n / 16)) [
  | inl l ↦ ap (λ o. ordering_then o (nat_cmp (m % 16) (n % 16))) (is_less (m / 16) (n / 16) l) ∙ sym (is_less m n (omega arith))
  | inr (inl e) ↦ ap (λ o. ordering_then o (nat_cmp (m % 16) (n % 16))) (is_equal (m / 16) (n / 16) e) ∙ elim (compared (m % 16) (n % 16)) [
    | inl l ↦ is_less (m % 16) (n % 16) l ∙ sym (is_less m n (omega arith))
    | inr (inl f) ↦ is_equal (m % 16) (n % 16) f ∙ sym (is_equal m n (omega arith))
    | inr (inr l) ↦ is_greater (m % 16) (n % 16) l ∙ sym (is_greater m n (omega arith))
  ]
  | inr (inr l) ↦ ap (λ o. ordering_then o (nat_cmp (m % 16) (n % 16))) (is_greater (m / 16) (n / 16) l) ∙ sym (is_greater m n (omega arith))
]

then_then : (o p q : Ordering) → ordering_then o (ordering_then p q) ≡ ordering_then (ordering_then o p) q
then_then Less p q = refl
then_then Equal p q = refl
then_then Greater p q = refl

are_bytes : Bytes → Bool
are_bytes = list_all (λ byte. nat_lt byte 256)

pub hex_order : (m n : Bytes) → list_all (λ byte. nat_lt byte 256) m ≡ true → list_all (λ byte. nat_lt byte 256) n ≡ true → byte_cmp (hex m) (hex n) ≡ byte_cmp m n
hex_order [] [] h k = refl
hex_order [] (b ∷ n) h k = refl
hex_order (a ∷ m) [] h k = refl
hex_order (a ∷ m) (b ∷ n) h k =
    let p = and_parts (nat_lt a 256) _ h in
    let q = and_parts (nat_lt b 256) _ k in
    let small = ltb-true a 256 p.0 in
    let little = ltb-true b 256 q.0 in
    let rest = hex_order m n p.1 q.1 in
    let high = digit_order (a / 16) (b / 16) (omega arith) (omega arith) in
    let low = digit_order (a % 16) (b % 16) (omega arith) (omega arith) in
    (λ i. ordering_then (high i) (ordering_then (low i) (rest i)))
    ∙ then_then (nat_cmp (a / 16) (b / 16)) (nat_cmp (a % 16) (b % 16)) (byte_cmp m n)
    ∙ ap (λ o. ordering_then o (byte_cmp m n)) (two_digits a b)

-- ---- the texts that begin with one are those between it and its two fillings

abbrev pub between : (o p : Ordering) → Bool
between o p = is_le o && not (is_lt p)

not_below : (k : ℕ) (ys : Bytes) → length ys ≡ k → list_all is_lower_digit ys ≡ true → is_le (byte_cmp (replicate k 48) ys) ≡ true
not_below zero [] e h = refl
not_below zero (y ∷ ys) e h = absurd (omega arith)
not_below (suc k) [] e h = absurd (omega arith)
not_below (suc k) (y ∷ ys) e h =
    let p = and_parts (is_lower_digit y) _ h in
    let rest = not_below k ys (omega arith) p.1 in
    elim (compared 48 y) [
      | inl l ↦ ap (λ o. is_le (ordering_then o (byte_cmp (replicate k 48) ys))) (is_less 48 y l)
      | inr (inl f) ↦ ap (λ o. is_le (ordering_then o (byte_cmp (replicate k 48) ys))) (is_equal 48 y f) ∙ rest
      | inr (inr l) ↦ absurd (no_less y p.0 l)
    ]
  where
    no_less : (y : ℕ) → is_lower_digit y ≡ true → y < 48 → ⊥
    no_less y h l = grind (arith, nat_tests)

not_above : (k : ℕ) (ys : Bytes) → length ys ≡ k → list_all is_lower_digit ys ≡ true → not (is_lt (byte_cmp (replicate k 102) ys)) ≡ true
not_above zero [] e h = refl
not_above zero (y ∷ ys) e h = absurd (omega arith)
not_above (suc k) [] e h = absurd (omega arith)
not_above (suc k) (y ∷ ys) e h =
    let p = and_parts (is_lower_digit y) _ h in
    let rest = not_above k ys (omega arith) p.1 in
    elim (compared 102 y) [
      | inl l ↦ absurd (no_more y p.0 l)
      | inr (inl f) ↦ ap (λ o. not (is_lt (ordering_then o (byte_cmp (replicate k 102) ys)))) (is_equal 102 y f) ∙ rest
      | inr (inr l) ↦ ap (λ o. not (is_lt (ordering_then o (byte_cmp (replicate k 102) ys)))) (is_greater 102 y l)
    ]
  where
    no_more : (y : ℕ) → is_lower_digit y ≡ true → 102 < y → ⊥
    no_more y h l = grind (arith, nat_tests)

differ : (m n : ℕ) → (m < n) ⊎ (n < m) → nat_eq m n ≡ false
differ m n (inl l) = grind (arith, nat_tests)
differ m n (inr l) = grind (arith, nat_tests)

pub within_filled : (xs ys : Bytes) (k : ℕ) → length ys ≡ length xs + k → list_all is_lower_digit ys ≡ true → is_within (xs ++ replicate k 48) (xs ++ replicate k 102) ys ≡ starts_with nat_eq ys xs
within_filled [] ys k e h = let f : length ys ≡ k = omega arith in λ i. not_below k ys f h i && not_above k ys f h i
within_filled (x ∷ xs) [] k e h = absurd (omega arith)
within_filled (x ∷ xs) (y ∷ ys) k e h =
    let p = and_parts (is_lower_digit y) _ h in
    let rest = within_filled xs ys k (omega arith) p.1 in
    let low = byte_cmp (xs ++ replicate k 48) ys in
    let high = byte_cmp (xs ++ replicate k 102) ys in
    elim (compared x y) [
      | inl l ↦ ap (λ o. between (ordering_then o low) (ordering_then o high)) (is_less x y l) ∙ ap (λ b. b && starts_with nat_eq ys xs) (sym (differ x y (inl l)))
      | inr (inl f) ↦ ap (λ o. between (ordering_then o low) (ordering_then o high)) (is_equal x y f) ∙ rest ∙ ap (λ b. b && starts_with nat_eq ys xs) (sym (same x y f))
      | inr (inr l) ↦ ap (λ o. between (ordering_then o low) (ordering_then o high)) (is_greater x y l) ∙ ap (λ b. b && starts_with nat_eq ys xs) (sym (differ x y (inr l)))
    ]
  where
    same : (m n : ℕ) → m ≡ n → nat_eq m n ≡ true
    same m n e = grind (arith, nat_tests)
