-- Reading a quoted text byte by byte, with the bytes so far at its front.
use Rattle.std.proofs.Common.{◌≡◌, ℕ, suc, ◌+◌, ◌-◌, ◌<◌, ◌≤◌, [], ◌∷◌, ◌++◌, Option, Some, None, refl, sym, ap, ◌∙◌, arith, append_assoc}
use Rattle.std.specs.Option.{option_map}
use Rattle.std.proofs.lemmas.List.{append-nil}
use Rattle.gx_model.specs.Texts.{Bytes}
use Rattle.gx_model.specs.Texts.Paths.{char_at, unquote_within}

abbrev pub with_front : Bytes → Option (Bytes × Bytes) → Option (Bytes × Bytes)
with_front front o = option_map (λ p. (front ++ p.0, p.1)) o

-- ---- one step

pub stops : (rest : Bytes) (len i : ℕ) → i < len → char_at rest ≡ None → unquote_within (len - i) rest ≡ None
unfolding unquote_within
stops rest len i lt h =
    let k : len - i ≡ suc (len - (i + 1)) = omega arith in
    rw (k, h) refl

pub closes : (rest after : Bytes) (len i : ℕ) → i < len → char_at rest ≡ Some (None, after) → unquote_within (len - i) rest ≡ Some ([], after)
unfolding unquote_within
closes rest after len i lt h =
    let k : len - i ≡ suc (len - (i + 1)) = omega arith in
    rw (k, h) refl

pub goes_on : (rest after : Bytes) (b len i : ℕ) → i < len → char_at rest ≡ Some (Some b, after) → unquote_within (len - i) rest ≡ option_map {T = Bytes × Bytes} {U = Bytes × Bytes} (λ p. (b ∷ p.0, p.1)) (unquote_within (len - (i + 1)) after)
unfolding unquote_within
goes_on rest after b len i lt h =
    let k : len - i ≡ suc (len - (i + 1)) = omega arith in
    rw (k, h) refl

pub ends : (rest : Bytes) (len i : ℕ) → len ≤ i → unquote_within (len - i) rest ≡ None
unfolding unquote_within
ends rest len i le =
    let k : len - i ≡ 0 = omega arith in
    rw k refl

-- ---- what follows the closing quote

abbrev pub rest_in : Option (Bytes × Bytes) → Option Bytes
rest_in o = option_map (λ p. p.1) o

pub skip_byte : (b : ℕ) (o : Option (Bytes × Bytes)) → rest_in (option_map (λ p. (b ∷ p.0, p.1)) o) ≡ rest_in o
skip_byte b None = refl
skip_byte b (Some p) = refl

-- ---- the bytes, with those so far at their front

pub char_stops : (front rest : Bytes) (len i : ℕ) (total : Option (Bytes × Bytes)) → i < len → char_at rest ≡ None → with_front front (unquote_within (len - i) rest) ≡ total → total ≡ None
char_stops front rest len i total lt h so_far = sym so_far ∙ ap (with_front front) (stops rest len i lt h)

pub char_closes : (front rest after : Bytes) (len i : ℕ) (total : Option (Bytes × Bytes)) → i < len → char_at rest ≡ Some (None, after) → with_front front (unquote_within (len - i) rest) ≡ total → total ≡ Some (front, after)
char_closes front rest after len i total lt h so_far = sym so_far ∙ ap (with_front front) (closes rest after len i lt h) ∙ ap (λ (t : Bytes). Some (t, after)) (append-nil front)

regroup : (front : Bytes) (b : ℕ) (o : Option (Bytes × Bytes)) → with_front front (option_map (λ p. (b ∷ p.0, p.1)) o) ≡ with_front (front ++ b ∷ []) o
regroup front b None = refl
regroup front b (Some p) = ap (λ (t : Bytes). Some (t, p.1)) (simp append_assoc)

pub char_goes_on : (front rest after : Bytes) (b len i : ℕ) (total : Option (Bytes × Bytes)) → i < len → char_at rest ≡ Some (Some b, after) → with_front front (unquote_within (len - i) rest) ≡ total → with_front (front ++ b ∷ []) (unquote_within (len - (i + 1)) after) ≡ total
char_goes_on front rest after b len i total lt h so_far = sym (ap (with_front front) (goes_on rest after b len i lt h) ∙ regroup front b (unquote_within (len - (i + 1)) after)) ∙ so_far

pub char_ends : (front rest : Bytes) (len i : ℕ) (total : Option (Bytes × Bytes)) → len ≤ i → with_front front (unquote_within (len - i) rest) ≡ total → total ≡ None
char_ends front rest len i total le so_far = sym so_far ∙ ap (with_front front) (ends rest len i le)
