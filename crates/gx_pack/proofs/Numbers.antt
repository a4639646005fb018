-- Numbers in groups of seven bits, as they are written and as they are read.
use Rattle.std.proofs.Common.{◌≡◌, ℕ, zero, suc, ◌+◌, ◌-◌, ◌*◌, ◌/◌, ◌%◌, ◌<◌, ◌≤◌, ◌⊎◌, inl, inr, true, false, [], ◌∷◌, ◌++◌, reverse, Some, refl, ap, ◌∙◌, arith}
use Rattle.std.specs.Prelude.{nat_lt}
use Rattle.std.specs.Int.Digits.{digits_of}
use Rattle.std.proofs.lemmas.Bool.Decides.{nat_tests}
use Rattle.std.proofs.lemmas.Int.Digits.{digits_of_step}
use Rattle.std.proofs.lemmas.List.{reverse-append}
use Rattle.gx_model.specs.declared.objects.Kind.{Kind}
use Rattle.gx_model.specs.declared.objects.Kind.TheVariants.{Blob, Tree, Commit, Tag}
use Rattle.gx_model.specs.Texts.{Bytes}
use Rattle.gx_pack.specs.Packs.{chained, entry_head, sevens, type_of}
use Rattle.gx_pack.specs.PackReading.{head_at, kind_at, number_at}

-- the lowest group, and those of the rest
pub sevens_step : (n : ℕ) → 0 < n → sevens n ≡ (n % 128) ∷ sevens (n / 128)
sevens_step n h = ap reverse (digits_of_step 128 n (omega arith) h) ∙ reverse-append (digits_of 128 (n / 128)) (n % 128 ∷ [])

-- a group before others
pub chained_more : (low n : ℕ) → 0 < n → chained (low ∷ sevens n) ≡ (128 + low) ∷ chained (sevens n)
chained_more low n h = let step = sevens_step n h in rw step refl

none_or_some : (n : ℕ) → (n ≡ 0) ⊎ (0 < n)
none_or_some zero = inl refl
none_or_some (suc n) = inr (omega arith)

-- a number of one group
number_last : (n : ℕ) (rest : Bytes) → n / 128 ≡ 0 → 0 < n → number_at (chained (sevens n) ++ rest) ≡ Some (n, rest)
number_last n rest none p =
    let low : nat_lt (n % 128) 128 ≡ true = grind (arith, nat_tests) in
    let same : n % 128 ≡ n = omega (arith, none) in
    let last : sevens n ≡ (n % 128) ∷ [] = sevens_step n p ∙ ap (λ m. (n % 128) ∷ sevens m) none in
    ap (λ s. number_at (chained s ++ rest)) last ∙ rw (low, same) refl

-- a number of more groups, where those above the lowest are read
number_more : (n : ℕ) (rest : Bytes) → 0 < n / 128 → 0 < n → number_at (chained (sevens (n / 128)) ++ rest) ≡ Some (n / 128, rest)
    → number_at (chained (sevens n) ++ rest) ≡ Some (n, rest)
number_more n rest some p more =
    let high : nat_lt (128 + n % 128) 128 ≡ false = grind (arith, nat_tests) in
    let whole : 128 + n % 128 - 128 + 128 * (n / 128) ≡ n = omega arith in
    let text : chained (sevens n) ≡ (128 + n % 128) ∷ chained (sevens (n / 128)) = ap chained (sevens_step n p) ∙ chained_more (n % 128) (n / 128) some in
    ap (λ s. number_at (s ++ rest)) text ∙ rw (high, more, whole) refl

-- a number is read as it was written, at most so large
number_within : (k n : ℕ) (rest : Bytes) → n ≤ k → 0 < n → number_at (chained (sevens n) ++ rest) ≡ Some (n, rest)
number_within zero n rest h p = absurd (omega (arith, h, p))
number_within (suc k) n rest h p = elim (none_or_some (n / 128)) [
  | inl none ↦ number_last n rest none p
  | inr some ↦ number_more n rest some p (number_within k (n / 128) rest (omega (arith, h, p)) some)
]

pub number_read : (n : ℕ) (rest : Bytes) → 0 < n → number_at (chained (sevens n) ++ rest) ≡ Some (n, rest)
number_read n rest h = number_within n n rest (omega arith) h

-- the first byte of an entry tells its kind, whether another byte follows or not
kind_read : (kind : Kind) (low : ℕ) → low < 16 → kind_at ((16 * type_of kind + low) / 16 % 8) ≡ Some kind
kind_read Commit low h = let e : (16 * 1 + low) / 16 % 8 ≡ 1 = omega (arith, h) in rw e refl
kind_read Tree low h = let e : (16 * 2 + low) / 16 % 8 ≡ 2 = omega (arith, h) in rw e refl
kind_read Blob low h = let e : (16 * 3 + low) / 16 % 8 ≡ 3 = omega (arith, h) in rw e refl
kind_read Tag low h = let e : (16 * 4 + low) / 16 % 8 ≡ 4 = omega (arith, h) in rw e refl

pub type_small : (kind : Kind) → type_of kind ≤ 4
type_small Commit = omega arith
type_small Tree = omega arith
type_small Blob = omega arith
type_small Tag = omega arith

-- a head of one byte
head_short : (kind : Kind) (size : ℕ) (rest : Bytes) → size / 16 ≡ 0 → head_at (entry_head kind size ++ rest) ≡ Some ((kind, size), rest)
unfolding entry_head head_at
head_short kind size rest none =
    let small = type_small kind in
    let b : ℕ = 16 * type_of kind + size % 16 in
    let low : nat_lt b 128 ≡ true = grind (arith, nat_tests, small) in
    let is = kind_read kind (size % 16) (omega arith) in
    let same : b % 16 ≡ size = omega (arith, none) in
    let text : entry_head kind size ≡ b ∷ [] = ap (λ m. chained (b ∷ sevens m)) none in
    ap (λ s. head_at (s ++ rest)) text ∙ rw (is, low, same) refl

-- a head of more bytes
head_long : (kind : Kind) (size : ℕ) (rest : Bytes) → 0 < size / 16 → head_at (entry_head kind size ++ rest) ≡ Some ((kind, size), rest)
unfolding entry_head head_at
head_long kind size rest some =
    let small = type_small kind in
    let b : ℕ = 16 * type_of kind + size % 16 in
    let high : nat_lt (128 + b) 128 ≡ false = grind (arith, nat_tests) in
    let shifted : (128 + b) / 16 % 8 ≡ b / 16 % 8 = omega (arith, small) in
    let is = kind_read kind (size % 16) (omega arith) in
    let more = number_read (size / 16) rest some in
    let same : (128 + b) % 16 + 16 * (size / 16) ≡ size = omega arith in
    let text : entry_head kind size ≡ (128 + b) ∷ chained (sevens (size / 16)) = chained_more b (size / 16) some in
    ap (λ s. head_at (s ++ rest)) text ∙ rw (shifted, is, high, more, same) refl

-- the head of an entry is read as its kind and its length
pub head_read : (kind : Kind) (size : ℕ) (rest : Bytes) → head_at (entry_head kind size ++ rest) ≡ Some ((kind, size), rest)
head_read kind size rest = elim (none_or_some (size / 16)) [
  | inl none ↦ head_short kind size rest none
  | inr some ↦ head_long kind size rest some
]
