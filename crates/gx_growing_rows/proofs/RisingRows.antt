-- Rows whose names go up, read one by one.
use Rattle.std.proofs.Common.{◌≡◌, ℕ, zero, suc, ◌+◌, ◌*◌, ◌<◌, ◌≤◌, Bool, true, false, refl, sym, ap, ◌∙◌, List, [], ◌∷◌, ◌++◌, Option, Some, None, length, take, drop, arith, append_assoc, append-nil, length-drop}
use Rattle.std.specs.Prelude.{◌&&◌}
use Rattle.std.specs.Cmp.Lexicographic.{nat_list_cmp_total}
use Rattle.std.specs.FinMap.Entries.{below_all, is_sorted}
use Rattle.std.specs.Int.{w64, from_be_bytes}
use Rattle.std.specs.Ordering.{is_lt}
use Rattle.std.specs.declared.cmp.Ordering.{Ordering}
use Rattle.std.specs.declared.cmp.Ordering.TheVariants.{Less, Equal, Greater}
use Rattle.std.proofs.lemmas.Bool.{and_parts, true≢false}
use Rattle.std.proofs.lemmas.List.{drop-take}
use Rattle.gx_model.specs.Texts.{Bytes, byte_cmp}
use Rattle.gx_growing.specs.GrowingText.{Row, part, rows_in}
use Rattle.gx_growing_rows.specs.Rising.{is_above}

-- ---- rows of bytes

take_less : (n m : ℕ) (x : Bytes) → n ≤ m → take n (take m x) ≡ take n x
take_less zero m x le = refl
take_less (suc n) zero x le = absurd (omega (arith, le))
take_less (suc n) (suc m) [] le = refl
take_less (suc n) (suc m) (b ∷ x) le = ap (λ t. b ∷ t) (take_less n m x (omega (arith, le)))

-- So many rows are those of their bytes.
pub rows_cut : (n : ℕ) (x : Bytes) → rows_in n (take (28 * n) x) ≡ rows_in n x
rows_cut zero x = refl
rows_cut (suc n) x =
    let long : 28 * suc n ≡ 28 + 28 * n = omega arith in
    let other : 28 * suc n ≡ 20 + (8 + 28 * n) = omega arith in
    let name = take_less 20 (28 * suc n) x (omega arith) in
    let place = ap (λ k. take 8 (drop 20 (take k x))) other ∙ ap (take 8) (drop-take 20 (8 + 28 * n) x) ∙ take_less 8 (8 + 28 * n) (drop 20 x) (omega arith) in
    let rest = ap (λ k. rows_in n (drop 28 (take k x))) long ∙ ap (rows_in n) (drop-take 28 (28 * n) x) ∙ rows_cut n (drop 28 x) in
    λ i. (name i, from_be_bytes w64 (place i)) ∷ rest i

-- They are so many.
pub rows_long : (n : ℕ) (x : Bytes) → length (rows_in n x) ≡ n
rows_long zero x = refl
rows_long (suc n) x = ap suc (rows_long n (drop 28 x))

-- ---- names that go up

-- whether names go up from one on
abbrev rise_from : Option Bytes → List Row → Bool
rise_from last [] = true
rise_from last (r ∷ rs) = is_above last r.0 && rise_from (Some r.0) rs

below_less : (x y : Bytes) (rs : List Row) → byte_cmp x y ≡ Less → below_all byte_cmp y rs ≡ true → below_all byte_cmp x rs ≡ true
below_less x y [] e h = refl
below_less x y (r ∷ rs) e h =
    let p = and_parts (is_lt (byte_cmp y r.0)) (below_all byte_cmp y rs) h in
    let near = nat_list_cmp_total.trans x y r.0 e (less (byte_cmp y r.0) p.0) in
    ap (λ o. is_lt o && below_all byte_cmp x rs) near ∙ below_less x y rs e p.1
  where
    less : (o : Ordering) → is_lt o ≡ true → o ≡ Less
    less Less h = refl
    less Equal h = absurd (true≢false (sym h))
    less Greater h = absurd (true≢false (sym h))

-- names that go up one by one go up
rises : (k : Bytes) (rs : List Row) → rise_from (Some k) rs ≡ (below_all byte_cmp k rs && is_sorted byte_cmp rs)
rises k [] = refl
rises k (r ∷ rs) = ap (λ b. is_lt (byte_cmp k r.0) && b) (rises r.0 rs) ∙ by (byte_cmp k r.0) refl (below_all byte_cmp r.0 rs) refl
  where
    none : (b : Bool) → false ≡ (b && false)
    none true = refl
    none false = refl

    by : (o : Ordering) → byte_cmp k r.0 ≡ o → (b : Bool) → below_all byte_cmp r.0 rs ≡ b → (is_lt o && (b && is_sorted byte_cmp rs)) ≡ ((is_lt o && below_all byte_cmp k rs) && (b && is_sorted byte_cmp rs))
    by Less e true h = ap (λ b. b && is_sorted byte_cmp rs) (sym (below_less k r.0 rs e h))
    by Less e false h = none (below_all byte_cmp k rs)
    by Equal e b h = refl
    by Greater e b h = refl

rises_first : (rs : List Row) → rise_from None rs ≡ is_sorted byte_cmp rs
rises_first [] = refl
rises_first (r ∷ rs) = rises r.0 rs

-- ---- rows that are pushed

module _ (count : ℕ) (rows : Bytes) (old : List Row) where
  -- of so many rows, these are left
  pub record AreLeft (left : ℕ) (rest : Bytes) (new : List Row) : Type 0 where
    pub long : length rest ≡ 28 * left
    pub pushed : new ++ rows_in left rest ≡ old ++ rows_in count rows

  module _ (left : ℕ) (rest : Bytes) (new : List Row) (a : AreLeft left rest new) where
    -- Where less than a row is left, none is, and all were pushed.
    pub all_pushed : length rest < 28 → (left ≡ 0) × (new ≡ old ++ rows_in count rows)
    all_pushed few =
        let none : left ≡ 0 = omega (arith, few, a.long) in
        (none, sym (append-nil new) ∙ ap (λ n. new ++ rows_in n rest) (sym none) ∙ a.pushed)

    module _ (some : 28 ≤ length rest) where
      pub more_left : (m : ℕ) × (left ≡ suc m)
      more_left = by left refl
        where
          by : (n : ℕ) → left ≡ n → (m : ℕ) × (left ≡ suc m)
          by zero e = absurd (omega (arith, some, a.long, e))
          by (suc m) e = (m, e)

      -- A row more is pushed.
      pub one_pushed : (row : Row) (behind : Bytes) → row ≡ (take 20 rest, from_be_bytes w64 (part rest 20 8)) → behind ≡ drop 28 rest → AreLeft more_left.0 behind (new ++ row ∷ [])
      one_pushed row behind is after = record {
        long = ap length after ∙ length-drop 28 rest ∙ omega (arith, a.long, more_left.1);
        pushed = append_assoc new (row ∷ []) (rows_in more_left.0 behind) ∙ (λ i. new ++ (is i ∷ rows_in more_left.0 (after i))) ∙ ap (λ n. new ++ rows_in n rest) (sym more_left.1) ∙ a.pushed;
      }

-- of so many rows, those behind the last name are left
pub record RowsLeft (count : ℕ) (rows : Bytes) (old : List Row) (last : Option Bytes) (rest : Bytes) (new : List Row) : Type 0 where
  pub left : ℕ
  pub these : AreLeft count rows old left rest new
  pub rises : is_sorted byte_cmp (rows_in count rows) ≡ rise_from last (rows_in left rest)

-- Before the first row, all are left.
pub all_left : (count : ℕ) (rows : Bytes) (old : List Row) → length rows ≡ 28 * count → RowsLeft count rows old None rows old
all_left count rows old long = record { left = count; these = record { long = long; pushed = refl }; rises = sym (rises_first (rows_in count rows)) }

module _ (count : ℕ) (rows : Bytes) (old : List Row) (last : Option Bytes) (rest : Bytes) (new : List Row) (a : RowsLeft count rows old last rest new) where
  -- Where less than a row is left, all were pushed, and their names go up.
  pub none_left : length rest < 28 → (is_sorted byte_cmp (rows_in count rows) ≡ true) × (new ≡ old ++ rows_in count rows)
  none_left few =
      let all = all_pushed count rows old a.left rest new a.these few in
      (a.rises ∙ ap (λ n. rise_from last (rows_in n rest)) all.0, all.1)

  module _ (some : 28 ≤ length rest) (row : Row) (behind : Bytes) (is : row ≡ (take 20 rest, from_be_bytes w64 (part rest 20 8))) (after : behind ≡ drop 28 rest) where
    abbrev more : (m : ℕ) × (a.left ≡ suc m)
    more = more_left count rows old a.left rest new a.these some

    next_rises : is_sorted byte_cmp (rows_in count rows) ≡ (is_above last row.0 && rise_from (Some row.0) (rows_in more.0 behind))
    next_rises =
        let r = sym is in
        let b = sym after in
        a.rises ∙ ap (λ n. rise_from last (rows_in n rest)) more.1 ∙ (λ i. is_above last (r i).0 && rise_from (Some (r i).0) (rows_in more.0 (b i)))

    -- A row with a name that isn't behind the last one.
    pub row_low : is_above last row.0 ≡ false → is_sorted byte_cmp (rows_in count rows) ≡ false
    row_low low = next_rises ∙ ap (λ t. t && rise_from (Some row.0) (rows_in more.0 behind)) low

    -- A row more is pushed.
    pub row_pushed : is_above last row.0 ≡ true → RowsLeft count rows old (Some row.0) behind (new ++ row ∷ [])
    row_pushed above = record {
      left = more.0;
      these = one_pushed count rows old a.left rest new a.these some row behind is after;
      rises = next_rises ∙ ap (λ t. t && rise_from (Some row.0) (rows_in more.0 behind)) above;
    }
