-- The rows of runs that are read one behind the other.
use Rattle.std.proofs.Common.{◌≡◌, ℕ, zero, suc, ◌+◌, ◌*◌, refl, sym, ap, ◌∙◌, List, [], ◌∷◌, ◌++◌, length, take, drop, Option, None, Some, arith, length-append, length-drop}
use Rattle.std.specs.Int.{w64, from_be_bytes}
use Rattle.std.proofs.lemmas.Grind.{flat_map-append}
use Rattle.std.proofs.lemmas.List.{append-nil, drop-append-le, take-append-le}
use Rattle.std.proofs.lemmas.List.Sums.{sum_by-append, sum_by-cons}
use Rattle.gx_model.specs.Texts.{Bytes}
use Rattle.gx_growing.specs.GrowingText.{Run, live_rows, part, rows_in, run_rows}
use Rattle.gx_growing_rows.proofs.RisingRows.{rows_cut}
use Rattle.gx_additions.specs.Merging.{AddsRows, ReadsRows, rows_shown}

-- rows of bytes, and of more behind them
rows_both : (n m : ℕ) (x y : Bytes) → length x ≡ 28 * n → rows_in (n + m) (x ++ y) ≡ rows_in n x ++ rows_in m y
rows_both zero m [] y l = let none : 0 + m ≡ m = omega arith in ap (λ k. rows_in k y) none
rows_both zero m (b ∷ x) y l = absurd (omega (arith, l))
rows_both (suc n) m x y l =
    let a = length-drop 20 x in
    let b = length-drop 28 x in
    let name = take-append-le 20 x y (omega arith) in
    let place : part (x ++ y) 20 8 ≡ part x 20 8 = ap (take 8) (drop-append-le 20 x y (omega arith)) ∙ take-append-le 8 (drop 20 x) y (omega arith) in
    let more : suc n + m ≡ suc (n + m) = omega arith in
    let rest = ap (rows_in (n + m)) (drop-append-le 28 x y (omega arith)) ∙ rows_both n m (drop 28 x) y (omega arith) in
    ap (λ k. rows_in k (x ++ y)) more ∙ (λ i. (name i, from_be_bytes w64 (place i)) ∷ rest i)

-- none are read at first
pub none_read : (told : Option Bytes) → ReadsRows told [] []
none_read None = tt
none_read (Some text) = (refl, refl)

-- those of one run more
pub one_read : (told : Option Bytes) (runs : List Run) (run : Run) (old new : Bytes) → ReadsRows told runs old → AddsRows told run old new → ReadsRows told (runs ++ run ∷ []) new
one_read None runs run old new h a = tt
one_read (Some text) runs run old new h a =
    let n = rows_shown runs in
    let sum : rows_shown (runs ++ run ∷ []) ≡ n + run.count = plus (rows_shown (runs ++ run ∷ [])) n (rows_shown (run ∷ [])) run.count (rows_shown []) (sum_by-append (λ (r : Run). r.count) runs (run ∷ [])) (sum_by-cons (λ (r : Run). r.count) run []) refl in
    let bytes : a.bytes ≡ take (28 * run.count) (drop run.place text) = a.there ∙ ap (λ k. take k (drop run.place text)) a.long in
    let more : rows_in run.count a.bytes ≡ run_rows text run = ap (rows_in run.count) bytes ∙ rows_cut run.count (drop run.place text) in (
      ap length a.added ∙ length-append old a.bytes ∙ (λ i. h.0 i + a.long i) ∙ times n run.count ∙ ap (λ k. 28 * k) (sym sum),
      (λ i. rows_in (sum i) (a.added i)) ∙ rows_both n run.count old a.bytes h.0 ∙ (λ i. h.1 i ++ more i) ∙ ap (λ z. live_rows text runs ++ z) (sym (append-nil (run_rows text run)))
          ∙ sym (flat_map-append (run_rows text) runs (run ∷ [])),
    )
  where
    plus : (s n k m z : ℕ) → s ≡ n + k → k ≡ m + z → z ≡ 0 → s ≡ n + m
    plus s n k m z e f g = omega arith

    times : (n m : ℕ) → 28 * n + 28 * m ≡ 28 * (n + m)
    times n m = omega arith
