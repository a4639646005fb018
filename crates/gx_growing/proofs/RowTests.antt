-- The tests of live runs and their rows tell what they test.
use Rattle.std.proofs.Common.{◌≡◌, ◌+◌, ◌*◌, true, refl, sym, ap, ◌∙◌, List, [], ◌∷◌, length, arith, eq-eqb, eqb→eq}
use Rattle.std.specs.Prelude.{T, ◌&&◌, nat_eq, nat_le}
use Rattle.std.specs.Bool.{passes}
use Rattle.std.specs.List.{AllByRecursion, list_all}
use Rattle.std.specs.FinMap.Entries.{is_sorted}
use Rattle.std.proofs.lemmas.Bool.Decides.{nat_tests}
use Rattle.gx_model.specs.Texts.{Bytes, byte_cmp, same_bytes}
use Rattle.gx_model.proofs.Texts.PathTests.{both, first, is_same, is_true, same_is, second}
use Rattle.gx_growing.specs.GrowingText.{Row, Run, StandsIn, digests_length, head_length, page_digests, part, run_bytes, run_rows, table_length}
use Rattle.gx_growing.specs.GrowingReading.{has_digests, is_standing, same_row, same_rows}

-- ---- rows

row_is : (x y : Row) → T (same_row x y) → x ≡ y
row_is x y h =
    let names = same_is x.0 y.0 (first (same_bytes x.0 y.0) _ h) in
    let places = eqb→eq x.1 y.1 (second (same_bytes x.0 y.0) (nat_eq x.1 y.1) h) in
    λ i. (names i, places i)

is_row : (x : Row) → T (same_row x x)
is_row x = both _ _ (is_same x.0 x.0 refl) (passes _ (eq-eqb x.1 x.1 refl))

-- rows that pass the test are equal
pub rows_are : (xs ys : List Row) → T (same_rows xs ys) → xs ≡ ys
rows_are [] [] h = refl
rows_are [] (y ∷ ys) h = absurd h
rows_are (x ∷ xs) [] h = absurd h
rows_are (x ∷ xs) (y ∷ ys) h =
    let one = row_is x y (first (same_row x y) _ h) in
    let more = rows_are xs ys (second (same_row x y) (same_rows xs ys) h) in
    λ i. one i ∷ more i

itself : (xs : List Row) → T (same_rows xs xs)
itself [] = tt
itself (x ∷ xs) = both _ _ (is_row x) (itself xs)

-- equal rows pass the test
pub are_rows : (xs ys : List Row) → xs ≡ ys → same_rows xs ys ≡ true
are_rows xs ys e = ap (same_rows xs) (sym e) ∙ is_true _ (itself xs)

-- ---- runs

module _ (digest : Bytes → Bytes) (text : Bytes) where
  -- a run that passes the test stands in the text
  pub standing_is : (run : Run) → T (is_standing digest text run) → StandsIn digest text run
  standing_is run h =
      let pages = page_digests digest (run_bytes text run) in
      let near = nat_le head_length run.place in
      let inside = nat_le (run.place + table_length run.count) (length text) in
      let three = first ((near && inside) && has_digests digest text run) (is_sorted byte_cmp (run_rows text run)) h in
      let two = first (near && inside) (has_digests digest text run) three in
      let digests = second (near && inside) (has_digests digest text run) three in
      let written = same_bytes (part text (run.place + 28 * run.count) (digests_length run.count)) pages in
      let a : nat_le head_length run.place ≡ true = is_true _ (first near inside two) in
      let b : nat_le (run.place + table_length run.count) (length text) ≡ true = is_true _ (second near inside two) in
      record {
        behind = grind (arith, nat_tests);
        within = grind (arith, nat_tests);
        pages = same_is (part text (run.place + 28 * run.count) (digests_length run.count)) pages (first written (same_bytes run.digest (digest pages)) digests);
        told = same_is run.digest (digest pages) (second written (same_bytes run.digest (digest pages)) digests);
        sorted = is_true _ (second ((near && inside) && has_digests digest text run) (is_sorted byte_cmp (run_rows text run)) h);
      }

  -- a run that stands in the text passes the test
  pub is_one_standing : (run : Run) → StandsIn digest text run → T (is_standing digest text run)
  is_one_standing run h =
      let pages = page_digests digest (run_bytes text run) in
      let near = h.behind in
      let inside = h.within in
      let a : nat_le head_length run.place ≡ true = grind (arith, nat_tests) in
      let b : nat_le (run.place + table_length run.count) (length text) ≡ true = grind (arith, nat_tests) in
      let written = is_same (part text (run.place + 28 * run.count) (digests_length run.count)) pages h.pages in
      let told = is_same run.digest (digest pages) h.told in
      both _ _ (both _ _ (both _ _ (passes _ a) (passes _ b)) (both _ _ written told)) (passes _ h.sorted)

  pub standing_are : (runs : List Run) → T (list_all (is_standing digest text) runs) → AllByRecursion (StandsIn digest text) runs
  standing_are [] h = tt
  standing_are (r ∷ rs) h = (standing_is r (first (is_standing digest text r) _ h), standing_are rs (second (is_standing digest text r) (list_all (is_standing digest text) rs) h))

  pub are_standing : (runs : List Run) → AllByRecursion (StandsIn digest text) runs → T (list_all (is_standing digest text) runs)
  are_standing [] h = tt
  are_standing (r ∷ rs) h = both _ _ (is_one_standing r h.0) (are_standing rs h.1)
