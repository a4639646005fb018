-- The rows of runs as a table's: what stands in a row, which names the rows have, and their order.
use Rattle.std.proofs.Common.{◌≡◌, ◌≢◌, inl, inr, ℕ, zero, suc, ◌+◌, ◌*◌, ◌<◌, true, List, [], ◌∷◌, ◌++◌, length, map, take, drop, get_or, Option, Some, None, refl, sym, ap, ◌∙◌, subst, arith, append_assoc, drop-cons}
use Rattle.std.specs.Prelude.{T, IsTrue}
use Rattle.std.specs.Bool.{passes}
use Rattle.std.specs.Int.{w64, from_be_bytes}
use Rattle.std.specs.Ordering.{is_lt}
use Rattle.std.specs.List.{Contains}
use Rattle.std.specs.FinMap.Entries.{below_all, is_sorted}
use Rattle.std.proofs.Math.Seq.{drop-drop}
use Rattle.std.proofs.lemmas.List.{take-append-drop}
use Rattle.std.proofs.lemmas.Grind.{take_at_read}
use Rattle.std.proofs.lemmas.List.Elements.{Contains-append_cases, Contains-append_left, Contains-append_right}
use Rattle.gx_model.specs.Texts.{Bytes, byte_cmp}
use Rattle.gx_model.proofs.Texts.PathTests.{first, is_true, second}
use Rattle.gx_growing.specs.GrowingText.{Row, Run, live_rows, part, rows_in, run_rows}
use Rattle.gx_growing_parts.specs.Shown.{shown_run}
use Rattle.gx_growing_parts.specs.declared.runs.Run.{Run as GivenRun}
use Rattle.gx_rows.specs.Rows.{AreSorted, FindsIn, IsFound, row_name, row_place}
use Rattle.gx_rows.specs.declared.finding.Found.{Found}
use Rattle.gx_look.specs.Rows.{PlacesIn, AreSorted as AreInOrder}

-- ---- a row in its place

pub rows_long : (n : ℕ) (text : Bytes) → length (rows_in n text) ≡ n
rows_long zero text = refl
rows_long (suc n) text = ap suc (rows_long n (drop 28 text))

-- the row of this number
row_there : (n i : ℕ) (text : Bytes) (d : Row) → i < n → get_or (rows_in n text) i d ≡ (part text (28 * i) 20, from_be_bytes w64 (part text (28 * i + 20) 8))
row_there zero i text d l = absurd (omega (arith, l))
row_there (suc n) zero text d l = refl
row_there (suc n) (suc i) text d l =
    let more = row_there n i (drop 28 text) d (omega (arith, l)) in
    let name : part (drop 28 text) (28 * i) 20 ≡ part text (28 * suc i) 20 = ap (take 20) (drop-drop (28 * i) 28 text) ∙ ap (λ p. part text p 20) (omega arith) in
    let place : part (drop 28 text) (28 * i + 20) 8 ≡ part text (28 * suc i + 20) 8 = ap (take 8) (drop-drop (28 * i + 20) 28 text) ∙ ap (λ p. part text p 8) (omega arith) in
    more ∙ (λ k. (name k, from_be_bytes w64 (place k)))

module _ (text : Bytes) (at count : ℕ) where
  -- the same, of a run's rows in a text
  pub run_row : (i : ℕ) (d : Row) → i < count → get_or (rows_in count (drop at text)) i d ≡ (row_name text at i, row_place text at i)
  run_row i d l =
      let name : part (drop at text) (28 * i) 20 ≡ row_name text at i = ap (take 20) (drop-drop (28 * i) at text) in
      let place : part (drop at text) (28 * i + 20) 8 ≡ part text (at + 28 * i + 20) 8 = ap (take 8) (drop-drop (28 * i + 20) at text) ∙ ap (λ p. part text p 8) (omega arith) in
      row_there count i (drop at text) d l ∙ (λ k. (name k, from_be_bytes w64 (place k)))

  -- a row that is found is one of the run's
  pub row_contained : (name : Bytes) (found : Found) → IsFound text at count name found → Contains (rows_in count (drop at text)) (name, found.place)
  row_contained name found h =
      let long = rows_long count (drop at text) in
      let within = h.within in
      let row : get_or (rows_in count (drop at text)) found.row (name, found.place) ≡ (name, found.place) =
      run_row found.row (name, found.place) within ∙ (λ k. (h.name_is k, h.place_is k)) in
      (found.row, omega arith, row)

  -- rows in order are a table's in order
  below_at : (x : Bytes) (rows : List Row) (d : Row) (i : ℕ) → T (below_all byte_cmp x rows) → i < length rows → is_lt (byte_cmp x (get_or rows i d).0) ≡ true
  below_at x [] d i h l = absurd (omega (arith, l))
  below_at x (r ∷ rs) d zero h l = is_true _ (first (is_lt (byte_cmp x r.0)) (below_all byte_cmp x rs) h)
  below_at x (r ∷ rs) d (suc i) h l = below_at x rs d i (second (is_lt (byte_cmp x r.0)) (below_all byte_cmp x rs) h) (omega (arith, l))

  sorted_at : (rows : List Row) (d : Row) (i j : ℕ) → T (is_sorted byte_cmp rows) → i < j → j < length rows → is_lt (byte_cmp (get_or rows i d).0 (get_or rows j d).0) ≡ true
  sorted_at [] d i j h l m = absurd (omega (arith, m))
  sorted_at (r ∷ rs) d i zero h l m = absurd (omega (arith, l))
  sorted_at (r ∷ rs) d zero (suc j) h l m = below_at r.0 rs d j (first (below_all byte_cmp r.0 rs) (is_sorted byte_cmp rs) h) (omega (arith, m))
  sorted_at (r ∷ rs) d (suc i) (suc j) h l m = sorted_at rs d i j (second (below_all byte_cmp r.0 rs) (is_sorted byte_cmp rs) h) (omega (arith, l)) (omega (arith, m))

  pub table_sorted : IsTrue (is_sorted byte_cmp (rows_in count (drop at text))) → AreSorted text at count
  table_sorted h = λ i j l m.
      let d : Row = ([], 0) in
      let long = rows_long count (drop at text) in
      let one = run_row i d (omega (arith, l, m)) in
      let other = run_row j d m in
      ap is_lt (λ k. byte_cmp (sym one k).0 (sym other k).0) ∙ sorted_at (rows_in count (drop at text)) d i j (passes _ h) l (omega (arith, m))

  -- where a table has no name, no row of the run has it
  pub row_absent : (name : Bytes) → ((row : ℕ) → row < count → row_name text at row ≢ name) → (place : ℕ) → Contains (rows_in count (drop at text)) (name, place) → ⊥
  row_absent name none place h =
      let long = rows_long count (drop at text) in
      let lt = h.1 in
      let within : h.0 < count = omega arith in
      none h.0 within (ap (λ (r : Row). r.0) (sym (run_row h.0 (name, place) within) ∙ h.2))

-- ---- runs in a row

-- no run in front has the name
pub none_yet : (told : Option Bytes) (name : Bytes) → PlacesIn told [] name None
none_yet None name = tt
none_yet (Some text) name = λ sorted place h. absurd (omega (arith, h.1))

live_behind : (text : Bytes) (front : List Run) (run : Run) (behind : List Run) → live_rows text (front ++ run ∷ behind) ≡ live_rows text front ++ (run_rows text run ++ live_rows text behind)
live_behind text [] run behind = refl
live_behind text (r ∷ rs) run behind = ap (λ z. run_rows text r ++ z) (live_behind text rs run behind) ∙ sym (append_assoc (run_rows text r) (live_rows text rs) (run_rows text run ++ live_rows text behind))

map_behind : (front : List GivenRun) (run : GivenRun) (behind : List GivenRun) → map shown_run (front ++ run ∷ behind) ≡ map shown_run front ++ shown_run run ∷ map shown_run behind
map_behind [] run behind = refl
map_behind (r ∷ rs) run behind = ap (λ z. shown_run r ∷ z) (map_behind rs run behind)

pub live_split : (text : Bytes) (front : List GivenRun) (run : GivenRun) (behind : List GivenRun) → live_rows text (map shown_run (front ++ run ∷ behind)) ≡ live_rows text (map shown_run front) ++ (run_rows text (shown_run run) ++ live_rows text (map shown_run behind))
live_split text front run behind = ap (live_rows text) (map_behind front run behind) ∙ live_behind text (map shown_run front) (shown_run run) (map shown_run behind)

-- a run that has the name is among the runs
pub place_found : (told : Option Bytes) (front : List GivenRun) (run : GivenRun) (behind : List GivenRun) (name : Bytes) (found : Found) → FindsIn told run.place run.count name (Some found)
    → PlacesIn told (front ++ run ∷ behind) name (Some found.place)
place_found None front run behind name found h = tt
place_found (Some text) front run behind name found h =
    let row : Row = (name, found.place) in
    let there = row_contained text run.place run.count name found h in
    subst (λ rows. Contains rows row) (sym (live_split text front run behind))
    (Contains-append_right (live_rows text (map shown_run front)) (run_rows text (shown_run run) ++ live_rows text (map shown_run behind)) row
    (Contains-append_left (run_rows text (shown_run run)) (live_rows text (map shown_run behind)) row there))

all_front : (text : Bytes) (front : List GivenRun) (run : GivenRun) (behind : List GivenRun) → AreInOrder text (map shown_run (front ++ run ∷ behind)) → AreInOrder text (map shown_run front) × IsTrue (is_sorted byte_cmp (run_rows text (shown_run run)))
all_front text [] run behind h = (tt, h.0)
all_front text (r ∷ rs) run behind h = let more = all_front text rs run behind h.1 in ((h.0, more.0), more.1)

-- a run that hasn't the name adds none
pub none_more : (told : Option Bytes) (front : List GivenRun) (run : GivenRun) (name : Bytes) → PlacesIn told front name None → FindsIn told run.place run.count name None → PlacesIn told (front ++ run ∷ []) name None
none_more None front run name h f = tt
none_more (Some text) front run name h f = λ sorted place there.
    let orders = all_front text front run [] sorted in
    let rows = live_rows text (map shown_run front) in
    let split = subst (λ z. Contains z (name, place)) (live_split text front run []) there in
    elim (Contains-append_cases rows (run_rows text (shown_run run) ++ []) (name, place) split) [
      | inl k ↦ h orders.0 place k
      | inr k ↦ elim (Contains-append_cases (run_rows text (shown_run run)) [] (name, place) k) [
        | inl m ↦ row_absent text run.place run.count name (f (table_sorted text run.place run.count orders.1)) place m
        | inr m ↦ absurd (omega (arith, m.1))
      ]
    ]

-- ---- the run of a number

module _ (told : Option Bytes) (runs : List GivenRun) (i : ℕ) (d : GivenRun) (name : Bytes) (within : i < length runs) where
  -- what is found in it is found in all
  pub found_at : (found : Found) → FindsIn told (get_or runs i d).place (get_or runs i d).count name (Some found) → PlacesIn told runs name (Some found.place)
  found_at found h =
      let split : take i runs ++ get_or runs i d ∷ drop (suc i) runs ≡ runs = ap (λ z. take i runs ++ z) (sym (drop-cons runs i d within)) ∙ take-append-drop i runs in
      subst (λ z. PlacesIn told z name (Some found.place)) split (place_found told (take i runs) (get_or runs i d) (drop (suc i) runs) name found h)

  -- what neither those in front nor it have is in none up to it
  pub none_at : PlacesIn told (take i runs) name None → FindsIn told (get_or runs i d).place (get_or runs i d).count name None → PlacesIn told (take (i + 1) runs) name None
  none_at so_far h = subst (λ z. PlacesIn told z name None) (sym (take_at_read runs i d within).1) (none_more told (take i runs) (get_or runs i d) name so_far h)
