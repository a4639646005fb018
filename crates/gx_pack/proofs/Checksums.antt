-- The sums of a checksum, piece by piece.
use Rattle.std.proofs.Common.{◌≡◌, ℕ, suc, ◌+◌, ◌*◌, ◌/◌, ◌%◌, ◌<◌, [], ◌∷◌, ◌++◌, length, get_or, sum, take, refl, ap, subst, ◌∙◌, arith, zero-add}
use Rattle.std.proofs.lemmas.List.Sums.{sum_by-append, sum_by-cons}
use Rattle.std.proofs.Math.Seq.{take-suc}
use Rattle.gx_model.specs.Texts.{Bytes}
use Rattle.gx_pack.specs.Zlib.{sum_of_sums}

-- the sums of some bytes and then of others
pub sums_append : (s : ℕ) (xs ys : Bytes) → sum_of_sums s (xs ++ ys) ≡ sum_of_sums s xs + sum_of_sums (s + sum xs) ys
unfolding sum_of_sums
sums_append s [] ys = let same : s + 0 ≡ s = omega arith in let begun = ap (λ n. sum_of_sums n ys) same in omega (arith, begun)
sums_append s (x ∷ xs) ys =
    let rest = sums_append (s + x) xs ys in
    let next = sum_by-cons (λ y. y) x xs in
    let same : s + x + sum xs ≡ s + sum (x ∷ xs) = omega (arith, next) in
    subst (λ n. s + x + sum_of_sums (s + x) (xs ++ ys) ≡ s + x + sum_of_sums (s + x) xs + sum_of_sums n ys) same (omega (arith, rest))

-- the sums of one byte more
pub sums_next : (s : ℕ) (xs : Bytes) (i : ℕ) → i < length xs
    → sum_of_sums s (take (i + 1) xs) ≡ sum_of_sums s (take i xs) + (s + sum (take i xs) + get_or xs i 0)
unfolding sum_of_sums
sums_next s xs i h =
    let step : i + 1 ≡ suc i = omega arith in
    let last = get_or xs i 0 in
    let both = sums_append s (take i xs) (last ∷ []) in
    let one : sum_of_sums (s + sum (take i xs)) (last ∷ []) ≡ s + sum (take i xs) + last = omega arith in
    ap (λ n. sum_of_sums s (take n xs)) step ∙ ap (sum_of_sums s) (take-suc xs i 0 h) ∙ both ∙ ap (λ n. sum_of_sums s (take i xs) + n) one

-- the sum of one byte more
pub sum_next : (xs : Bytes) (i : ℕ) → i < length xs → sum (take (i + 1) xs) ≡ sum (take i xs) + get_or xs i 0
sum_next xs i h =
    let step : i + 1 ≡ suc i = omega arith in
    let last = get_or xs i 0 in
    ap (λ n. sum (take n xs)) step ∙ ap sum (take-suc xs i 0 h) ∙ sum_by-append (λ x. x) (take i xs) (last ∷ []) ∙ ap (λ n. sum (take i xs) + n) (zero-add last)

-- the modulus, this many times, and sums that begin with so much more
sums_above : (s q : ℕ) (xs : Bytes) → (k : ℕ) × (sum_of_sums (s + 65521 * q) xs ≡ sum_of_sums s xs + 65521 * k)
unfolding sum_of_sums
sums_above s q [] = (0, refl)
sums_above s q (x ∷ xs) =
    let more = sums_above (s + x) q xs in
    let rest = more.1 in
    let same : s + 65521 * q + x ≡ s + x + 65521 * q = omega arith in
    let begun = ap (λ n. sum_of_sums n xs) same in
    (more.0 + q, omega (arith, rest, begun))

-- sums that begin with a remainder have the same remainder
pub sums_reduced : (s : ℕ) (xs : Bytes) → (k : ℕ) × (sum_of_sums s xs ≡ sum_of_sums (s % 65521) xs + 65521 * k)
sums_reduced s xs =
    let more = sums_above (s % 65521) (s / 65521) xs in
    let whole : s ≡ s % 65521 + 65521 * (s / 65521) = omega arith in
    (more.0, ap (λ n. sum_of_sums n xs) whole ∙ more.1)

-- the first sum of a piece and then of the rest
pub first_both : (a : ℕ) (piece rest : Bytes) → ((a + sum piece) % 65521 + sum rest) % 65521 ≡ (a + sum (piece ++ rest)) % 65521
first_both a piece rest = let both = sum_by-append (λ x. x) piece rest in omega (arith, both)

-- the second sum likewise
pub second_both : (a b : ℕ) (piece rest : Bytes)
    → ((b + sum_of_sums a piece) % 65521 + sum_of_sums ((a + sum piece) % 65521) rest) % 65521 ≡ (b + sum_of_sums a (piece ++ rest)) % 65521
second_both a b piece rest =
    let both = sums_append a piece rest in
    let reduced = sums_reduced (a + sum piece) rest in
    let k = reduced.0 in
    let same = reduced.1 in
    omega (arith, both, same)
