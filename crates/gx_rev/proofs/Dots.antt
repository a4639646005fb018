-- Where the first two dots stand, as a search tells it.
use Rattle.std.proofs.Common.{◌≡◌, ℕ, zero, suc, ◌<◌, ◌≤◌, ◌+◌, Bool, false, true, nat_eq, [], ◌∷◌, length, take, drop, Some, None, refl, arith, slice_index}
use Rattle.std.specs.Prelude.{codes}
use Rattle.std.specs.List.{starts_with}
use Rattle.std.proofs.lemmas.Bool.Decides.{nat_tests}
use Rattle.memchr.specs.Find.{OccursAt}
use Rattle.gx_model.specs.Texts.{Bytes}
use Rattle.gx_model.specs.Revisions.{cut_dots}

-- a test that doesn't pass fails
pub not_true_false : (b : Bool) → ¬ (b ≡ true) → b ≡ false
not_true_false true h = absurd (h refl)
not_true_false false h = refl

-- two dots at the front
starts_there : (bs : Bytes) → OccursAt bs (46 ∷ 46 ∷ []) 0 → starts_with nat_eq bs (codes "..") ≡ true
starts_there [] o = absurd (let f = o.fits in omega arith)
starts_there (x ∷ []) o = absurd (let f = o.fits in omega arith)
starts_there (x ∷ y ∷ zs) o =
    let a : x ≡ 46 = o.reads 0 (omega arith) in
    let b : y ≡ 46 = o.reads 1 (omega arith) in
    rw (a, b) refl

occurs_here : (bs : Bytes) → starts_with nat_eq bs (codes "..") ≡ true → OccursAt bs (46 ∷ 46 ∷ []) 0
occurs_here [] h = absurd cc
occurs_here (x ∷ []) h = absurd (grind (arith, nat_tests))
occurs_here (x ∷ y ∷ zs) h =
    let a : x ≡ 46 = grind (arith, nat_tests) in
    let b : y ≡ 46 = grind (arith, nat_tests) in
    record { fits = omega arith; reads = λ j lt. by a b j lt }
  where
    by : x ≡ 46 → y ≡ 46 → (j : ℕ) → j < 2 → slice_index (x ∷ y ∷ zs) (0 + j) ≡ slice_index (46 ∷ 46 ∷ []) j
    by a b zero lt = a
    by a b (suc zero) lt = b
    by a b (suc (suc j)) lt = absurd (omega arith)

-- one place further where a byte stands before
occurs_later : (b : ℕ) (bs : Bytes) (k : ℕ) → OccursAt bs (46 ∷ 46 ∷ []) k → OccursAt (b ∷ bs) (46 ∷ 46 ∷ []) (suc k)
occurs_later b bs k o = record { fits = let f = o.fits in omega arith; reads = λ j lt. let e : suc k + j ≡ suc (k + j) = omega arith in rw e (o.reads j lt) }

occurs_before : (b : ℕ) (bs : Bytes) (k : ℕ) → OccursAt (b ∷ bs) (46 ∷ 46 ∷ []) (suc k) → OccursAt bs (46 ∷ 46 ∷ []) k
occurs_before b bs k o = record { fits = let f = o.fits in omega arith; reads = λ j lt. let e : suc k + j ≡ suc (k + j) = omega arith in rw e at (o.reads j lt) }

pub no_dots : (bs : Bytes) → ((k : ℕ) → 0 ≤ k → k < length bs + 1 → ¬ (OccursAt bs (46 ∷ 46 ∷ []) k)) → None ≡ cut_dots bs
no_dots [] h = refl
no_dots (b ∷ bs) h =
    let e = not_true_false (starts_with nat_eq (b ∷ bs) (codes "..")) (λ t. h 0 (omega arith) (omega arith) (occurs_here (b ∷ bs) t)) in
    let rest = no_dots bs (λ k low lt o. h (suc k) (omega arith) (omega arith) (occurs_later b bs k o)) in
    rw (e, ← rest) refl

pub dots_there : (bs : Bytes) (k : ℕ) → ((j : ℕ) → 0 ≤ j → j < k → ¬ (OccursAt bs (46 ∷ 46 ∷ []) j)) → OccursAt bs (46 ∷ 46 ∷ []) k → Some (take k bs, drop (k + 2) bs) ≡ cut_dots bs
dots_there [] k h o = absurd (let f = o.fits in omega arith)
dots_there (b ∷ bs) zero h o = rw (starts_there (b ∷ bs) o) refl
dots_there (b ∷ bs) (suc k) h o =
    let e = not_true_false (starts_with nat_eq (b ∷ bs) (codes "..")) (λ t. h 0 (omega arith) (omega arith) (occurs_here (b ∷ bs) t)) in
    let rest = dots_there bs k (λ j low lt o. h (suc j) (omega arith) (omega arith) (occurs_later b bs j o)) (occurs_before b bs k o) in
    let next : suc k + 2 ≡ suc (k + 2) = omega arith in
    rw (e, next, ← rest) refl
