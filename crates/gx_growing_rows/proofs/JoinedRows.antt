-- Rows of live runs, of which some are taken in by a new run.
use Rattle.std.proofs.Common.{◌≡◌, ℕ, ◌+◌, ◌≤◌, Bool, true, false, cond, refl, sym, ap, subst, ◌∙◌, List, [], ◌∷◌, ◌++◌, length, map, None, Some, arith, append_assoc}
use Rattle.std.specs.Prelude.{IsTrue, ◌||◌}
use Rattle.std.specs.Bool.{passes}
use Rattle.std.specs.List.{list_any, sum_by}
use Rattle.std.specs.List.Sorted.{IsPermutation}
use Rattle.std.specs.FinMap.Entries.{find, is_sorted}
use Rattle.std.specs.Ordering.{is_eq}
use Rattle.std.proofs.lemmas.List.{map-append}
use Rattle.std.proofs.lemmas.List.Sorted.{IsPermutation-append_left, IsPermutation-append_right, IsPermutation-sym, IsPermutation-trans, sum_by-IsPermutation}
use Rattle.std.proofs.lemmas.List.Sums.{sum_by-append, sum_by-cons}
use Rattle.std.proofs.lemmas.Map.Text.{is_eq-slice_cmp}
use Rattle.gx_model.specs.Texts.{Bytes, byte_cmp, same_bytes}
use Rattle.gx_model.specs.Histories.{AreDistinct, Record}
use Rattle.gx_model.specs.declared.store_versions.Version.TheVariants.{Two}
use Rattle.gx_model.specs.Stores.StoreText.{stored_record}
use Rattle.gx_model.proofs.Texts.PathTests.{is_true, same_is}
use Rattle.gx_model.proofs.Histories.PathRuns.{same_itself}
use Rattle.gx_growing.specs.GrowingText.{Row, Segment, first_place, placed, placed_rows, records_of, segment_text, sorted_rows}
use Rattle.gx_growing.proofs.SortedRows.{AreApart, rows_sorted}
use Rattle.gx_growing.proofs.RowsTell.{same_sorted, sorted_permuted}
use Rattle.gx_growing_rows.proofs.SortedRows.{one_sorting}

-- ---- names

-- whether a row has a name, as a number
abbrev has_name : Bytes → Row → ℕ
has_name n row = cond (is_eq (byte_cmp n row.0)) 1 0

-- how many rows have a name
abbrev named : Bytes → List Row → ℕ
named n = sum_by (has_name n)

is_itself : (n : Bytes) → is_eq (byte_cmp n n) ≡ true
is_itself n = is_eq-slice_cmp n n ∙ same_itself n

-- where no row is found by a name, none has it, and the other way round
none_named : (n : Bytes) (xs : List Row) → find byte_cmp n xs ≡ None → named n xs ≡ 0
none_named n [] h = refl
none_named n (x ∷ xs) h = by (none_named n xs) (is_eq (byte_cmp n x.0)) refl h
  where
    by : (find byte_cmp n xs ≡ None → named n xs ≡ 0) → (b : Bool) → is_eq (byte_cmp n x.0) ≡ b → cond b (Some x.1) (find byte_cmp n xs) ≡ None → named n (x ∷ xs) ≡ 0
    by again true e f = absurd (cc)
    by again false e f =
        let one : has_name n x ≡ 0 = ap (λ b. cond b 1 0) e in
        omega (arith, sum_by-cons (has_name n) x xs, one, again f)

not_found : (n : Bytes) (xs : List Row) → named n xs ≡ 0 → find byte_cmp n xs ≡ None
not_found n [] h = refl
not_found n (x ∷ xs) h = by (not_found n xs) (is_eq (byte_cmp n x.0)) refl
  where
    by : (named n xs ≡ 0 → find byte_cmp n xs ≡ None) → (b : Bool) → is_eq (byte_cmp n x.0) ≡ b → find byte_cmp n (x ∷ xs) ≡ None
    by again true e =
        let one : has_name n x ≡ 1 = ap (λ b. cond b 1 0) e in
        absurd (omega (arith, sum_by-cons (has_name n) x xs, one, h))
    by again false e =
        let one : has_name n x ≡ 0 = ap (λ b. cond b 1 0) e in
        ap (λ b. cond b (Some x.1) (find byte_cmp n xs)) e ∙ again (omega (arith, sum_by-cons (has_name n) x xs, one, h))

-- of rows that are apart, one has a name at most, and the other way round
one_named : (xs : List Row) → AreApart xs → (n : Bytes) → named n xs ≤ 1
one_named [] h n = omega arith
one_named (x ∷ xs) h n = by (one_named xs h.1 n) (is_eq (byte_cmp n x.0)) refl
  where
    by : named n xs ≤ 1 → (b : Bool) → is_eq (byte_cmp n x.0) ≡ b → named n (x ∷ xs) ≤ 1
    by more true e =
        let same = same_is n x.0 (passes _ (sym (is_eq-slice_cmp n x.0) ∙ e)) in
        let one : has_name n x ≡ 1 = ap (λ b. cond b 1 0) e in
        let none : named n xs ≡ 0 = ap (λ m. named m xs) same ∙ none_named x.0 xs h.0 in
        omega (arith, sum_by-cons (has_name n) x xs, one, none)
    by more false e =
        let one : has_name n x ≡ 0 = ap (λ b. cond b 1 0) e in
        omega (arith, sum_by-cons (has_name n) x xs, one, more)

few_apart : (xs : List Row) → ((n : Bytes) → named n xs ≤ 1) → AreApart xs
few_apart [] h = tt
few_apart (x ∷ xs) h =
    let one : has_name x.0 x ≡ 1 = ap (λ b. cond b 1 0) (is_itself x.0) in (
      not_found x.0 xs (omega (arith, h x.0, sum_by-cons (has_name x.0) x xs, one)),
      few_apart xs (λ n. omega (arith, h n, sum_by-cons (has_name n) x xs)),
    )

-- ---- a run that takes in others

-- the live rows, of which some stay and some are taken in, are those that are held
module _ (kept taken held new : List Row) (told : sorted_rows (kept ++ taken) ≡ sorted_rows held) where
  with_new : IsPermutation (kept ++ (taken ++ new)) (held ++ new)
  with_new = subst (λ z. IsPermutation z (held ++ new)) (append_assoc kept taken new) (IsPermutation-append_left new (kept ++ taken) held (same_sorted (kept ++ taken) held told))

  -- Those that stay and those of the new run are the ones that are held, and the new ones.
  pub joined_told : sorted_rows (kept ++ sorted_rows (taken ++ new)) ≡ sorted_rows (held ++ new)
  joined_told =
      let sorted = IsPermutation-sym (taken ++ new) (sorted_rows (taken ++ new)) (sorted_permuted (taken ++ new)) in
      one_sorting (kept ++ sorted_rows (taken ++ new)) (held ++ new)
      (IsPermutation-trans (kept ++ sorted_rows (taken ++ new)) (kept ++ (taken ++ new)) (held ++ new) (IsPermutation-append_right kept (sorted_rows (taken ++ new)) (taken ++ new) sorted) with_new)

  -- Where all names differ, those of the new run go up.
  pub joined_rise : AreApart (held ++ new) → IsTrue (is_sorted byte_cmp (sorted_rows (taken ++ new)))
  joined_rise apart = is_true (is_sorted byte_cmp (sorted_rows (taken ++ new))) (rows_sorted (taken ++ new) (few_apart (taken ++ new) few))
    where
      few : (n : Bytes) → named n (taken ++ new) ≤ 1
      few n =
          let one = one_named (held ++ new) apart n in
          let same = sum_by-IsPermutation (has_name n) (kept ++ (taken ++ new)) (held ++ new) with_new in
          omega (arith, one, same, sum_by-append (has_name n) kept (taken ++ new))

-- ---- names of records

-- no row has a name that no record has
absent : (n : Bytes) (rows : List Row) → list_any (same_bytes n) (map (λ row. row.0) rows) ≡ false → find byte_cmp n rows ≡ None
absent n [] h = refl
absent n (r ∷ rs) h = by (absent n rs) (same_bytes n r.0) refl h
  where
    by : (list_any (same_bytes n) (map (λ row. row.0) rs) ≡ false → find byte_cmp n rs ≡ None) → (b : Bool) → same_bytes n r.0 ≡ b → (b || list_any (same_bytes n) (map (λ row. row.0) rs)) ≡ false → find byte_cmp n (r ∷ rs) ≡ None
    by again true e f = absurd (cc)
    by again false e f = ap (λ b. cond b (Some r.1) (find byte_cmp n rs)) (is_eq-slice_cmp n r.0 ∙ e) ∙ again f

names_apart : (rows : List Row) → AreDistinct (map (λ row. row.0) rows) → AreApart rows
names_apart [] h = tt
names_apart (r ∷ rs) h = (absent r.0 rs h.0, names_apart rs h.1)

placed_names : (place : ℕ) (rs : List Record) → map (λ row. row.0) (placed place rs) ≡ map (λ r. r.name) rs
placed_names place [] = refl
placed_names place (r ∷ rs) = ap (λ ns. r.name ∷ ns) (placed_names (place + length (stored_record Two r)) rs)

segments_names : (place : ℕ) (ss : List Segment) → map (λ row. row.0) (placed_rows place ss) ≡ map (λ r. r.name) (records_of ss)
segments_names place [] = refl
segments_names place (s ∷ ss) =
    let one = placed (first_place place s.records) s.records in
    map-append (λ row. row.0) one (placed_rows (place + length (segment_text s)) ss)
    ∙ (λ i. placed_names (first_place place s.records) s.records i ++ segments_names (place + length (segment_text s)) ss i)
    ∙ sym (map-append (λ r. r.name) s.records (records_of ss))

-- Where all records have other names, so have their rows.
pub held_apart : (place first : ℕ) (ss : List Segment) (new : List Record) → AreDistinct (map (λ r. r.name) (records_of ss ++ new)) → AreApart (placed_rows place ss ++ placed first new)
held_apart place first ss new distinct =
    let names = map-append (λ row. row.0) (placed_rows place ss) (placed first new)
    ∙ (λ i. segments_names place ss i ++ placed_names first new i) ∙ sym (map-append (λ r. r.name) (records_of ss) new) in
    names_apart (placed_rows place ss ++ placed first new) (subst AreDistinct (sym names) distinct)
