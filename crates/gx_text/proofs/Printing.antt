-- Bytes that are appended, and the bytes before them.
use Rattle.std.proofs.Common.{◌≡◌, ℕ, suc, ◌≤◌, [], ◌∷◌, ◌++◌, length, get_or, take, Fits, w8, refl, sym, ap, ◌∙◌, arith}
use Rattle.std.proofs.lemmas.List.{take-take, take_at, length-append}
use Rattle.gx_model.specs.Texts.{Bytes}
use Rattle.gx_model.specs.Texts.Paths.{AreBytes}

-- what leaves the middle as it was leaves the front of it as it was
pub keep_front : (old xs mid new : Bytes) → mid ≡ old ++ xs → take (length mid) new ≡ mid → take (length old) new ≡ old
keep_front old xs mid new e h =
    let le : length old ≤ length mid = omega (arith, ap length e, length-append old xs) in
    sym (take-take (length old) (length mid) new le) ∙ ap (take (length old)) (h ∙ e) ∙ take_at old xs (length old) refl

pub are_bytes : (bs : Bytes) → ((i : ℕ) → Fits w8 (get_or bs i 0)) → AreBytes bs
are_bytes [] h = tt
are_bytes (b ∷ bs) h = ((h 0).fits, are_bytes bs (λ i. h (suc i)))
