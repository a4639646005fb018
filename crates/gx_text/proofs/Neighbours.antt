-- Two neighbours in a list.
use Rattle.std.proofs.Common.{inl, inr, ◌⊎◌, ◌≢◌, ◌≡◌, ℕ, zero, suc, ◌-◌, ◌<◌, ◌≤◌, Bool, true, false, eqb, ◌&&◌, ◌||◌, List, [], ◌∷◌, length, get_or, drop, refl, sym, ◌∙◌, arith}
use Rattle.std.specs.Prelude.{◌==◌}
use Rattle.std.proofs.lemmas.Bool.Decides.{nat_tests}
use native.Mathlib.Numerals.{unary_clauses}
use Rattle.gx_model.specs.Texts.{has_pair}

pub has_pair-drop : (a b : ℕ) (bs : List ℕ) (i : ℕ) → suc i < length bs → has_pair a b (drop i bs) ≡ ((get_or bs i 0 == a && get_or bs (suc i) 0 == b) || has_pair a b (drop (suc i) bs))
has_pair-drop a b [] i lt = absurd (omega arith)
has_pair-drop a b (x ∷ []) i lt = absurd (omega arith)
has_pair-drop a b (x ∷ y ∷ bs) zero lt = refl
has_pair-drop a b (x ∷ y ∷ bs) (suc i) lt = has_pair-drop a b (y ∷ bs) i (omega arith)

pub has_pair-short : (a b : ℕ) (bs : List ℕ) (i : ℕ) → length bs ≤ suc i → has_pair a b (drop i bs) ≡ false
has_pair-short a b [] zero le = refl
has_pair-short a b [] (suc i) le = refl
has_pair-short a b (x ∷ []) zero le = refl
has_pair-short a b (x ∷ []) (suc i) le = has_pair-short a b [] i (omega arith)
has_pair-short a b (x ∷ y ∷ bs) zero le = absurd (omega arith)
has_pair-short a b (x ∷ y ∷ bs) (suc i) le = has_pair-short a b (y ∷ bs) i (omega arith)

not_both : (x y a b : ℕ) (r : Bool) → (x ≢ a) ⊎ (y ≢ b) → ((x == a && y == b) || r) ≡ r
not_both x y a b r (inl h) = let e : eqb x a ≡ false = grind (arith, nat_tests) in rw e refl
not_both x y a b r (inr h) = let e : eqb y b ≡ false = grind (arith, nat_tests) in rest (eqb x a) (eqb y b) r e where
  rest : (p q r : Bool) → q ≡ false → ((p && q) || r) ≡ r
  rest true q r e = rw e refl
  rest false q r e = refl

more : (a b : ℕ) (bs : List ℕ) (i : ℕ) → suc i < length bs → (get_or bs i 0 ≢ a) ⊎ (get_or bs (suc i) 0 ≢ b) → has_pair a b (drop (suc i) bs) ≡ has_pair a b (drop i bs)
more a b bs i lt h = sym (has_pair-drop a b bs i lt ∙ not_both (get_or bs i 0) (get_or bs (suc i) 0) a b (has_pair a b (drop (suc i) bs)) h)

there : (a b : ℕ) (bs : List ℕ) (i : ℕ) → suc i < length bs → get_or bs i 0 ≡ a → get_or bs (suc i) 0 ≡ b → has_pair a b (drop i bs) ≡ true
there a b bs i lt h k =
    let e : eqb (get_or bs i 0) a ≡ true = grind (arith, nat_tests) in
    let f : eqb (get_or bs (suc i) 0) b ≡ true = grind (arith, nat_tests) in
    has_pair-drop a b bs i lt ∙ rw (e, f) refl

pub has_pair_more : (a b : ℕ) (bs : List ℕ) (i : ℕ) → 1 ≤ i → i < length bs → (get_or bs (i - 1) 0 ≢ a) ⊎ (get_or bs i 0 ≢ b) → has_pair a b (drop i bs) ≡ has_pair a b (drop (i - 1) bs)
has_pair_more a b bs zero low lt h = absurd (omega arith)
has_pair_more a b bs (suc i) low lt h = simp unary_clauses (more a b bs i lt (simp unary_clauses at h))

pub has_pair_at : (a b : ℕ) (bs : List ℕ) (i : ℕ) → 1 ≤ i → i < length bs → get_or bs (i - 1) 0 ≡ a → get_or bs i 0 ≡ b → has_pair a b (drop (i - 1) bs) ≡ true
has_pair_at a b bs zero low lt h k = absurd (omega arith)
has_pair_at a b bs (suc i) low lt h k = simp unary_clauses (there a b bs i lt (simp unary_clauses at h) k)

pub has_pair_end : (a b : ℕ) (bs : List ℕ) (i : ℕ) → 1 ≤ i → length bs ≤ i → has_pair a b (drop (i - 1) bs) ≡ false
has_pair_end a b bs i low le = has_pair-short a b bs (i - 1) (omega arith)
