-- Where the first c stands, and that none does, as a search tells it.
use Rattle.std.proofs.Common.{◌≡◌, ℕ, zero, suc, ◌<◌, ◌≤◌, false, eqb, [], ◌∷◌, length, take, drop, Some, None, refl, arith}
use Rattle.std.proofs.lemmas.Bool.Decides.{nat_tests}
use Rattle.memchr.specs.Find.{is_byte, Passes}
use Rattle.gx_model.specs.Texts.{Bytes, cut_at}

apart : (c b : ℕ) (bs : Bytes) → ¬ (Passes (is_byte c) (b ∷ bs) 0) → eqb b c ≡ false
apart c b bs h = grind (arith, nat_tests)

pub cut_none : (c : ℕ) (bs : Bytes) → ((k : ℕ) → 0 ≤ k → k < length bs → ¬ (Passes (is_byte c) bs k)) → None ≡ cut_at c bs
unfolding cut_at
cut_none c [] h = refl
cut_none c (b ∷ bs) h =
    let e = apart c b bs (h 0 (omega arith) (omega arith)) in
    let rest = cut_none c bs (λ k low lt. h (suc k) (omega arith) (omega arith)) in
    rw (e, ← rest) refl

pub cut_there : (c : ℕ) (bs : Bytes) (k : ℕ) → k < length bs → ((j : ℕ) → 0 ≤ j → j < k → ¬ (Passes (is_byte c) bs j)) → Passes (is_byte c) bs k → Some (take k bs, drop (suc k) bs) ≡ cut_at c bs
unfolding cut_at
cut_there c [] k lt h p = absurd (omega arith)
cut_there c (b ∷ bs) zero lt h p = rw p refl
cut_there c (b ∷ bs) (suc k) lt h p =
    let e = apart c b bs (h 0 (omega arith) (omega arith)) in
    let rest = cut_there c bs k (omega arith) (λ j low lt. h (suc j) (omega arith) (omega arith)) p in
    rw (e, ← rest) refl
