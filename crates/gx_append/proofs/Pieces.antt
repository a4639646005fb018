-- Pieces of texts before, in and behind what a write touches.
use Rattle.std.proofs.Common.{◌≡◌, ℕ, ◌+◌, ◌≤◌, [], ◌∷◌, ◌++◌, length, take, drop, sym, ◌∙◌, ap, arith, append_assoc, length-append, length-drop}
use Rattle.std.proofs.lemmas.List.{drop-drop, length-take-le, take-append-drop}
use Rattle.std.proofs.Math.Seq.{drop-append-add, drop-append_seam, take-append_seam}
use Rattle.gx_model.specs.Texts.{Bytes}
use Rattle.gx_growing.specs.GrowingText.{head_text}
use Rattle.gx_growing.proofs.ReadFronts.{head_flat}
use Rattle.gx_append.specs.Devices.{Torn, written_at}

-- the lengths of two texts together
front_fits : (x z : Bytes) → length x ≤ length (x ++ z)
front_fits x z = let e = length-append x z in omega arith

-- what stands behind a front that is kept
pub behind_front : (x z c : Bytes) (at : ℕ) → at ≡ length x → (at ≤ length (x ++ z) → take at c ≡ take at (x ++ z)) → c ≡ x ++ drop at c
behind_front x z c at e kept =
    let same : take at (x ++ z) ≡ x = ap (λ n. take n (x ++ z)) e ∙ take-append_seam x z in
    let fits = front_fits x z in
    sym (take-append-drop at c) ∙ ap (λ l. l ++ drop at c) (kept (omega (arith, e, fits)) ∙ same)

-- bytes that are written behind a front
pub held_behind : (x z bytes : Bytes) (at : ℕ) → at ≡ length x → written_at at bytes (x ++ z) ≡ x ++ (bytes ++ drop (length bytes) z)
held_behind x z bytes at e =
    ap (λ n. take n (x ++ z) ++ (bytes ++ drop (n + length bytes) (x ++ z))) e
    ∙ (λ i. take-append_seam x z i ++ (bytes ++ drop-append-add x z (length bytes) i))

-- a write over a middle piece, which is cut short
pub torn_middle : (x y z c : Bytes) (at count : ℕ) → at ≡ length x → count ≡ length y → Torn at count (x ++ (y ++ z)) c → (piece : Bytes) × (length piece ≡ length y) × (c ≡ x ++ (piece ++ z))
torn_middle x y z c at count e n torn =
    let front = behind_front x (y ++ z) c at e torn.before in
    let rest : drop count (drop at c) ≡ z = drop-drop count at c ∙ torn.behind ∙ (λ i. drop (e i + n i) (x ++ (y ++ z))) ∙ drop-append-add x (y ++ z) (length y) ∙ drop-append_seam y z in
    let a = length-append x (y ++ z) in
    let b = length-append y z in
    let long = torn.no_shorter in
    let d = length-drop at c in
    let enough : count ≤ length (drop at c) = omega arith in
    (take count (drop at c), length-take-le count (drop at c) enough ∙ n, front ∙ ap (λ l. x ++ l) (sym (take-append-drop count (drop at c)) ∙ ap (λ l. take count (drop at c) ++ l) rest))

-- a write over a middle piece
pub held_middle : (x y z bytes : Bytes) (at : ℕ) → at ≡ length x → length bytes ≡ length y → written_at at bytes (x ++ (y ++ z)) ≡ x ++ (bytes ++ z)
held_middle x y z bytes at e n =
    held_behind x (y ++ z) bytes at e ∙ ap (λ l. x ++ (bytes ++ l)) (ap (λ m. drop m (y ++ z)) n ∙ drop-append_seam y z)

-- a write that is done is torn, too
pub held_torn : (text bytes : Bytes) (at : ℕ) → at ≤ length text → Torn at (length bytes) text (written_at at bytes text)
held_torn text bytes at within =
    let x = take at text in
    let z = drop at text in
    let size = length-take-le at text within in
    let split = take-append-drop at text in
    let is : written_at at bytes text ≡ x ++ (bytes ++ drop (length bytes) z) = ap (λ l. x ++ (bytes ++ l)) (sym (drop-drop (length bytes) at text)) in
    let a = length-append x (bytes ++ drop (length bytes) z) in
    let b = length-append bytes (drop (length bytes) z) in
    let d = length-drop (length bytes) z in
    let e = length-drop at text in
    let long : length (written_at at bytes text) ≡ length (x ++ (bytes ++ drop (length bytes) z)) = ap length is in
    record {
      before = λ le. ap (take at) is ∙ ap (λ n. take n (x ++ (bytes ++ drop (length bytes) z))) (sym size) ∙ take-append_seam x (bytes ++ drop (length bytes) z);
      behind = ap (drop (at + length bytes)) is ∙ ap (λ n. drop (n + length bytes) (x ++ (bytes ++ drop (length bytes) z))) (sym size)
          ∙ drop-append-add x (bytes ++ drop (length bytes) z) (length bytes) ∙ drop-append_seam bytes (drop (length bytes) z) ∙ drop-drop (length bytes) at text;
      no_shorter = omega arith;
    }

-- ---- the pieces of a head

-- what stands before the byte that picks
abbrev pub mark : Bytes
mark = 103 ∷ 120 ∷ 115 ∷ 116 ∷ 111 ∷ 114 ∷ 101 ∷ 32 ∷ 51 ∷ 10 ∷ []

-- what stands before the first slot, and before the second
abbrev pub to_first : Bytes → Bytes
to_first pick = mark ++ (pick ++ 10 ∷ [])

abbrev pub to_second : Bytes → Bytes → Bytes
to_second pick first = mark ++ (pick ++ (10 ∷ (first ++ 10 ∷ [])))

regroup_first : (m p r : Bytes) → m ++ (p ++ (10 ∷ r)) ≡ (m ++ (p ++ 10 ∷ [])) ++ r
regroup_first m p r = simp append_assoc

regroup_second : (m p f r : Bytes) → m ++ (p ++ (10 ∷ (f ++ (10 ∷ r)))) ≡ (m ++ (p ++ (10 ∷ (f ++ 10 ∷ [])))) ++ r
regroup_second m p f r = simp append_assoc

pub at_pick : (pick first second rest : Bytes) → head_text pick first second ++ rest ≡ mark ++ (pick ++ (10 ∷ (first ++ (10 ∷ (second ++ (10 ∷ rest))))))
at_pick pick first second rest = head_flat pick first second rest

pub at_first : (pick first second rest : Bytes) → head_text pick first second ++ rest ≡ to_first pick ++ (first ++ (10 ∷ (second ++ (10 ∷ rest))))
at_first pick first second rest = head_flat pick first second rest ∙ regroup_first mark pick (first ++ (10 ∷ (second ++ (10 ∷ rest))))

pub at_second : (pick first second rest : Bytes) → head_text pick first second ++ rest ≡ to_second pick first ++ (second ++ (10 ∷ rest))
at_second pick first second rest = head_flat pick first second rest ∙ regroup_second mark pick first (second ++ (10 ∷ rest))

pub to_first_long : (pick : Bytes) → length pick ≡ 1 → 12 ≡ length (to_first pick)
to_first_long pick p =
    let a = length-append mark (pick ++ 10 ∷ []) in
    let b = length-append pick (10 ∷ []) in
    omega arith

pub to_second_long : (pick first : Bytes) → length pick ≡ 1 → length first ≡ 106 → 119 ≡ length (to_second pick first)
to_second_long pick first p f =
    let a = length-append mark (pick ++ (10 ∷ (first ++ 10 ∷ []))) in
    let b = length-append pick (10 ∷ (first ++ 10 ∷ [])) in
    let d = length-append first (10 ∷ []) in
    omega arith
