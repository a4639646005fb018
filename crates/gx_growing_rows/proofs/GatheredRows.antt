-- The rows of runs, gathered run by run.
use Rattle.std.proofs.Common.{◌≡◌, ℕ, ◌+◌, ◌-◌, ◌*◌, inl, inr, Ok, Err, Result, length-drop, ◌<◌, ◌≤◌, Bool, true, false, refl, sym, ap, ◌∙◌, List, [], ◌∷◌, ◌++◌, length, map, take, drop, get_or, arith, append-nil}
use Rattle.std.specs.Prelude.{◌&&◌, ◌⊎◌, nat_le}
use Rattle.std.specs.declared.alloc.AllocError.{AllocError}
use Rattle.std.proofs.lemmas.Bool.{and_parts}
use Rattle.std.proofs.lemmas.Bool.Decides.{nat_tests}
use Rattle.std.specs.Cmp.Lexicographic.{pointwise}
use Rattle.std.specs.FinMap.Entries.{is_sorted}
use Rattle.std.specs.List.{list_all}
use Rattle.std.proofs.lemmas.Grind.{flat_map-append}
use Rattle.std.proofs.lemmas.List.{length-append, length-take-le, map-append, take-append-drop, take_more}
use Rattle.std.proofs.lemmas.List.Folds.{list_all-append}
use Rattle.gx_model.specs.Texts.{Bytes, byte_cmp}
use Rattle.gx_growing.specs.GrowingReading.{has_digests, is_standing, same_row, same_rows}
use Rattle.gx_growing.specs.GrowingText.{Row, Run, digests_length, live_rows, run_bytes, table_length, rows_in, run_rows, sorted_rows}
use Rattle.gx_growing.proofs.SortedRows.{sorted_long}
use Rattle.gx_growing_parts.specs.Tables.{has_table, is_within}
use Rattle.gx_growing_parts.specs.declared.runs.Run.{Run as GivenRun}
use Rattle.gx_growing_parts.specs.Shown.{shown_run}
use Rattle.gx_growing_rows.specs.Rising.{PushesRows, PushesRun}
use Rattle.gx_growing_rows.proofs.RisingRows.{rows_cut, rows_long}

no_false : (b : Bool) → (b && false) ≡ false
no_false true = refl
no_false false = refl

-- A run whose rows don't go up, or which has no table, doesn't stand.
pub not_standing : (digest : Bytes → Bytes) (text : Bytes) (run : Run) → has_table digest text run ≡ false → is_standing digest text run ≡ false
not_standing digest text run h = ap (λ b. b && is_sorted byte_cmp (run_rows text run)) h

-- A run with its table stands where its rows go up.
pub standing_if : (digest : Bytes → Bytes) (text : Bytes) (run : Run) (up : Bool) → has_table digest text run ≡ true → up ≡ is_sorted byte_cmp (run_rows text run) → is_standing digest text run ≡ up
standing_if digest text run up h e = ap (λ b. b && is_sorted byte_cmp (run_rows text run)) h ∙ sym e

module _ (digest : Bytes → Bytes) (text : Bytes) (runs : List GivenRun) where
  -- of the runs, so many were gathered
  pub record AreGathered (most done : ℕ) (live : List Row) : Type 0 where
    pub standing : list_all (is_standing digest text) (map shown_run (take done runs)) ≡ true
    pub rows : live ≡ live_rows text (map shown_run (take done runs))
    pub few : length live ≤ most

  -- Before the first, none was.
  pub none_gathered : (most : ℕ) (live : List Row) → live ≡ [] → AreGathered most 0 live
  none_gathered most live e = record { standing = refl; rows = e; few = let l = ap length e in omega (arith, l) }

  module _ (most done : ℕ) (live : List Row) (a : AreGathered most done live) (run : GivenRun) (at : done < length runs) (is : get_or runs done run ≡ run) where
    one_more : map shown_run (take (done + 1) runs) ≡ map shown_run (take done runs) ++ shown_run run ∷ []
    one_more = ap (map shown_run) (take_more runs done run at ∙ ap (λ r. take done runs ++ r ∷ []) is) ∙ map-append shown_run (take done runs) (run ∷ [])

    abbrev others : List Run
    others = map shown_run (drop (done + 1) runs)

    all_runs : map shown_run runs ≡ (map shown_run (take done runs) ++ shown_run run ∷ []) ++ others
    all_runs = ap (map shown_run) (sym (take-append-drop (done + 1) runs)) ∙ map-append shown_run (take (done + 1) runs) (drop (done + 1) runs) ∙ ap (λ z. z ++ others) one_more

    -- A run more.
    pub one_gathered : (new : List Row) → is_standing digest text (shown_run run) ≡ true → new ≡ live ++ run_rows text (shown_run run) → length new ≤ most → AreGathered most (done + 1) new
    one_gathered new stands pushed few = record {
      standing = ap (list_all (is_standing digest text)) one_more ∙ list_all-append (is_standing digest text) (map shown_run (take done runs)) (shown_run run ∷ [])
          ∙ (λ i. a.standing i && (stands i && true));
      rows = pushed ∙ (λ i. a.rows i ++ run_rows text (shown_run run)) ∙ sym (ap (live_rows text) one_more ∙ flat_map-append (run_rows text) (map shown_run (take done runs)) (shown_run run ∷ []) ∙ ap (λ z. live_rows text (map shown_run (take done runs)) ++ z) (append-nil (run_rows text (shown_run run))));
      few = few;
    }

    -- A run that doesn't stand.
    pub one_fallen : is_standing digest text (shown_run run) ≡ false → list_all (is_standing digest text) (map shown_run runs) ≡ false
    one_fallen falls =
        ap (list_all (is_standing digest text)) all_runs ∙ list_all-append (is_standing digest text) (map shown_run (take done runs) ++ shown_run run ∷ []) others
        ∙ ap (λ b. b && list_all (is_standing digest text) others) (list_all-append (is_standing digest text) (map shown_run (take done runs)) (shown_run run ∷ []) ∙ (λ i. a.standing i && (falls i && true)))

    -- A run with too many rows.
    pub one_too_many : most < length live + run.count → most < length (live_rows text (map shown_run runs))
    one_too_many many =
        let rows = run_rows text (shown_run run) in
        let front = live_rows text (map shown_run (take done runs)) in
        let whole = ap (λ z. length (live_rows text z)) all_runs ∙ ap length (flat_map-append (run_rows text) (map shown_run (take done runs) ++ shown_run run ∷ []) others)
        ∙ length-append (live_rows text (map shown_run (take done runs) ++ shown_run run ∷ [])) (live_rows text others) in
        let near = ap length (flat_map-append (run_rows text) (map shown_run (take done runs)) (shown_run run ∷ []) ∙ ap (λ z. front ++ z) (append-nil rows)) ∙ length-append front rows in
        omega (arith, many, whole, near, ap length a.rows, rows_long run.count (drop run.place text))

  -- All of them were gathered.
  pub all_gathered : (most done : ℕ) (live : List Row) → AreGathered most done live → take done runs ≡ runs → (list_all (is_standing digest text) (map shown_run runs) ≡ true) × (live ≡ live_rows text (map shown_run runs))
  all_gathered most done live a whole = (
    ap (λ z. list_all (is_standing digest text) (map shown_run z)) (sym whole) ∙ a.standing,
    a.rows ∙ ap (λ z. live_rows text (map shown_run z)) whole,
  )

-- ---- the rows of a run

-- the bytes of a run's rows, where it stands within the text
bytes_long : (digest : Bytes → Bytes) (text : Bytes) (run : Run) → has_table digest text run ≡ true → length (run_bytes text run) ≡ 28 * run.count
bytes_long digest text run h =
    let p = and_parts (is_within text run.place run.count) (has_digests digest text run) h in
    let q = and_parts (nat_le 226 run.place) (nat_le (run.place + table_length run.count) (length text)) p.0 in
    let within : run.place + table_length run.count ≤ length text = le_from (run.place + table_length run.count) (length text) q.1 in
    let long = length-drop run.place text in
    length-take-le (28 * run.count) (drop run.place text) (fits run.place (28 * run.count) (digests_length run.count) (length text) (length (drop run.place text)) within long)
  where
    le_from : (n m : ℕ) → nat_le n m ≡ true → n ≤ m
    le_from n m e = grind (arith, nat_tests)

    fits : (p r d t l : ℕ) → p + (r + d) ≤ t → l ≡ t - p → r ≤ l
    fits p r d t l a b = omega arith

-- What comes of pushing the rows of a run with its table, which are few enough.
pub pushed_so : {E : Type 0} (digest : Bytes → Bytes) (text : Bytes) (most : ℕ) (run : Run) (rows : Bytes) (old new : List Row) (answer : Result Bool E)
    → has_table digest text run ≡ true → rows ≡ run_bytes text run → length old + run.count ≤ most → PushesRows rows old new answer → PushesRun digest text most run old new answer
pushed_so digest text most run rows old new (Ok true) table is few h =
    let p = h run.count (ap length is ∙ bytes_long digest text run table) in
    let same = ap (rows_in run.count) is ∙ rows_cut run.count (drop run.place text) in
    let pushed = p.1 refl ∙ ap (λ z. old ++ z) same in (
      standing_if digest text run true table (p.0 ∙ ap (is_sorted byte_cmp) same),
      pushed,
      counted (length old) run.count (length (run_rows text run)) (length new) most (ap length pushed ∙ length-append old (run_rows text run)) (rows_long run.count (drop run.place text)) few,
    )
  where
    counted : (o c r n m : ℕ) → n ≡ o + r → r ≡ c → o + c ≤ m → n ≤ m
    counted o c r n m a b d = omega arith
pushed_so digest text most run rows old new (Ok false) table is few h =
    let p = h run.count (ap length is ∙ bytes_long digest text run table) in
    inl (standing_if digest text run false table (p.0 ∙ ap (is_sorted byte_cmp) (ap (rows_in run.count) is ∙ rows_cut run.count (drop run.place text))))
pushed_so digest text most run rows old new (Err refused) table is few h = tt

-- A run whose rows aren't pushed doesn't stand, or has too many.
pub run_fallen : (digest : Bytes → Bytes) (text : Bytes) (runs : List GivenRun) (most done : ℕ) (live : List Row) → AreGathered digest text runs most done live → done < length runs
    → (run : GivenRun) → get_or runs done run ≡ run → (new : List Row) → PushesRun digest text most {E = AllocError} (shown_run run) live new (Ok false)
    → (list_all (is_standing digest text) (map shown_run runs) ≡ false) ⊎ (most < length (live_rows text (map shown_run runs)))
run_fallen digest text runs most done live a at run is new (inl falls) = inl (one_fallen digest text runs most done live a run at is falls)
run_fallen digest text runs most done live a at run is new (inr many) = inr (one_too_many digest text runs most done live a run at is many)

-- Rows that are more than others aren't these.
pub too_many : (xs ys : List Row) → length ys < length xs → same_rows (sorted_rows xs) (sorted_rows ys) ≡ false
too_many xs ys lt = by (sorted_rows xs) (sorted_rows ys) (let a = sorted_long xs in let b = sorted_long ys in omega (arith, lt, a, b))
  where
    by : (xs ys : List Row) → length ys < length xs → same_rows xs ys ≡ false
    by [] ys lt = absurd (omega (arith, lt))
    by (x ∷ xs) [] lt = refl
    by (x ∷ xs) (y ∷ ys) lt = ap (λ b. same_row x y && b) (by xs ys (omega (arith, lt))) ∙ no_false (same_row x y)

-- Where a run doesn't stand, or they have too many rows, they aren't right.
pub rows_fall : (stand : Bool) (most : ℕ) (live rows : List Row) → length rows ≤ most → (stand ≡ false) ⊎ (most < length live) → false ≡ (stand && same_rows (sorted_rows live) (sorted_rows rows))
rows_fall stand most live rows e (inl falls) = sym (ap (λ b. b && same_rows (sorted_rows live) (sorted_rows rows)) falls)
rows_fall stand most live rows e (inr many) = sym (ap (λ b. stand && b) (too_many live rows (omega (arith, e, many))) ∙ no_false stand)

-- Rows that are compared pair by pair.
pub compared : (xs ys : List Row) → pointwise same_row xs ys ≡ same_rows xs ys
compared [] [] = refl
compared [] (y ∷ ys) = refl
compared (x ∷ xs) [] = refl
compared (x ∷ xs) (y ∷ ys) = ap (λ b. same_row x y && b) (compared xs ys)
