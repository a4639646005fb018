-- The rows of live runs in the order of places: they are those of a growing text's records.
use Rattle.std.proofs.Common.{◌≡◌, ℕ, suc, zero, ◌+◌, ◌*◌, ◌<◌, ◌≤◌, Bool, true, false, cond, List, [], ◌∷◌, ◌++◌, length, map, take, drop, get_or, Option, Some, None, refl, sym, ap, ◌∙◌, subst, arith, append-nil}
use Rattle.std.specs.Prelude.{⊤}
use Rattle.std.specs.List.Sorted.{IsNonDecreasingBy, IsPermutation}
use Rattle.std.proofs.lemmas.Grind.{take_at_read}
use Rattle.std.proofs.lemmas.List.{take_all, take-append-drop}
use Rattle.std.proofs.lemmas.List.Sorted.{sum_by-IsPermutation}
use Rattle.std.proofs.lemmas.List.Sums.{sum_by-cons}
use Rattle.gx_at.specs.Reads.{StandsAt}
use Rattle.gx_growing.specs.GrowingReading.{same_row}
use Rattle.gx_growing.specs.GrowingText.{Row, live_rows, rows_in, run_rows}
use Rattle.gx_growing.proofs.RowsTellPlaces.{Rise}
use Rattle.gx_growing_parts.specs.Shown.{shown_run}
use Rattle.gx_growing_parts.specs.declared.runs.Run.{Run as GivenRun}
use Rattle.gx_growing_rows.proofs.SortedRows.{count_of, counted_once, one_if, same_row_is}
use Rattle.gx_model.specs.Texts.{Bytes}
use Rattle.gx_objects.specs.declared.fault.LookFault.{LookFault}
use Rattle.gx_look.specs.Listing.{AddsRows, AreRowsOf, EndsBeforeRuns}
use Rattle.gx_look.specs.Reading.{EndsBefore}
use Rattle.gx_look.specs.Tails.{AreWithin}
use Rattle.gx_look.proofs.RowsOfRuns.{live_split}
use Rattle.gx_look.proofs.ToldNames.{rows_front}

-- ---- rows that are read

-- the rows of a run are those of the bytes that were read
pub rows_added : (told : Option Bytes) (run : GivenRun) (room : Bytes) (old new : List Row) → length room ≡ 28 * run.count → StandsAt told run.place room → new ≡ old ++ rows_in run.count room → AddsRows told run old new
rows_added None run room old new l h e = tt
rows_added (Some text) run room old new l h e =
    let behind = drop run.place text in
    let rest = drop (length room) behind in
    let whole : room ++ rest ≡ behind = ap (λ z. z ++ rest) h ∙ take-append-drop (length room) behind in
    e ∙ ap (λ z. old ++ z) (sym (rows_front run.count room rest (omega (arith, l))) ∙ ap (rows_in run.count) whole)

-- so far these are the rows of runs
abbrev pub AreLive : Option Bytes → List GivenRun → List Row → Type 0
AreLive None runs rows = ⊤
AreLive (Some text) runs rows = rows ≡ live_rows text (map shown_run runs)

pub none_live : (told : Option Bytes) → AreLive told [] []
none_live None = tt
none_live (Some text) = refl

pub more_live : (told : Option Bytes) (runs : List GivenRun) (i : ℕ) (d : GivenRun) (old new : List Row) → i < length runs → AreLive told (take i runs) old → AddsRows told (get_or runs i d) old new → AreLive told (take (i + 1) runs) new
more_live None runs i d old new l h a = tt
more_live (Some text) runs i d old new l h a =
    let front = take i runs in
    let run = get_or runs i d in
    a ∙ (λ k. h k ++ sym (append-nil (run_rows text (shown_run run))) k) ∙ sym (live_split text front run []) ∙ ap (λ z. live_rows text (map shown_run z)) (sym (take_at_read runs i d l).1)

-- all of them, put in order by their places
pub rows_are : (told : Option Bytes) (runs : List GivenRun) (i : ℕ) (old new : List Row) → length runs ≤ i → AreLive told (take i runs) old → IsPermutation old new → IsNonDecreasingBy (λ (row : Row). row.1) new → AreRowsOf told runs new
rows_are None runs i old new l h p up = tt
rows_are (Some text) runs i old new l h p up =
    let all = h ∙ ap (λ z. live_rows text (map shown_run z)) (take_all i runs l) in
    record { all = subst (λ z. IsPermutation z new) all p; up = up }

run_within : (most : ℕ) (runs : List GivenRun) (i : ℕ) (d : GivenRun) → i < length runs → AreWithin most runs → (get_or runs i d).place + 28 * (get_or runs i d).count ≤ most
run_within most [] i d l h = absurd (omega (arith, l))
run_within most (r ∷ rs) zero d l h = h.0
run_within most (r ∷ rs) (suc i) d l h = run_within most rs i d (omega (arith, l)) h.1

-- a text that ends before the rows of one run ends before those of all
pub runs_end : (told : Option Bytes) (runs : List GivenRun) (i : ℕ) (d : GivenRun) (fault : LookFault) → i < length runs → EndsBefore told ((get_or runs i d).place + 28 * (get_or runs i d).count) fault → EndsBeforeRuns told runs fault
runs_end None runs i d fault l h = tt
runs_end (Some text) runs i d fault l h = λ same within. let a = h same in let b = run_within (length text) runs i d l within in absurd (omega arith)

-- ---- their order

-- a row that stands among others has no place below the least of theirs
not_below : (r : Row) (place : ℕ) (rows : List Row) → ((k : ℕ) (d : Row) → k < length rows → place ≤ (get_or rows k d).1) → 0 < count_of r rows → place ≤ r.1
not_below r place [] h p = let none : count_of r [] ≡ 0 = refl in absurd (omega (arith, none, p))
not_below r place (x ∷ xs) h p = by (same_row r x) refl (not_below r place xs (λ k d l. h (suc k) d (omega (arith, l))))
  where
    by : (b : Bool) → same_row r x ≡ b → (0 < count_of r xs → place ≤ r.1) → place ≤ r.1
    by true e more = subst (λ (z : Row). place ≤ z.1) (sym (same_row_is r x e)) (h 0 x (omega arith))
    by false e more = let none : one_if r x ≡ 0 = ap (λ b. cond b 1 0) e in more (omega (arith, p, sum_by-cons (one_if r) x xs, none))

-- the same where places rise
above_least : (r : Row) (least : ℕ) (rows : List Row) → Rise least rows → 0 < count_of r rows → least ≤ r.1
above_least r least [] h p = let none : count_of r [] ≡ 0 = refl in absurd (omega (arith, none, p))
above_least r least (x ∷ xs) h p = by (same_row r x) refl (above_least r (suc x.1) xs h.1)
  where
    by : (b : Bool) → same_row r x ≡ b → (0 < count_of r xs → suc x.1 ≤ r.1) → least ≤ r.1
    by true e more = subst (λ (z : Row). least ≤ z.1) (sym (same_row_is r x e)) h.0
    by false e more =
        let none : one_if r x ≡ 0 = ap (λ b. cond b 1 0) e in
        let later = more (omega (arith, p, sum_by-cons (one_if r) x xs, none)) in
        omega (arith, later, h.0)

-- rows whose places never fall are those whose places rise, if they stand as often
one_order : (xs ys : List Row) (least : ℕ) → IsNonDecreasingBy (λ (row : Row). row.1) xs → Rise least ys → ((r : Row) → count_of r xs ≡ count_of r ys) → xs ≡ ys
one_order [] [] least up rise h = refl
one_order [] (y ∷ ys) least up rise h = let none : count_of y [] ≡ 0 = refl in absurd (omega (arith, none, h y, sum_by-cons (one_if y) y ys, counted_once y))
one_order (x ∷ xs) [] least up rise h = let none : count_of x [] ≡ 0 = refl in absurd (omega (arith, none, h x, sum_by-cons (one_if x) x xs, counted_once x))
one_order (x ∷ xs) (y ∷ ys) least up rise h = by (same_row x y) (same_row y x) refl refl (one_order xs ys (suc y.1) (λ i j d l m. up (suc i) (suc j) d (omega (arith, l)) (omega (arith, m))) rise.1)
  where
    front : x ≡ y → (((r : Row) → count_of r xs ≡ count_of r ys) → xs ≡ ys) → x ∷ xs ≡ y ∷ ys
    front one more =
        let tails : (r : Row) → count_of r xs ≡ count_of r ys = λ r. (let same : one_if r x ≡ one_if r y = ap (one_if r) one in
        omega (arith, h r, sum_by-cons (one_if r) x xs, sum_by-cons (one_if r) y ys, same)) in
        let rest = more tails in
        λ i. one i ∷ rest i

    by : (b c : Bool) → same_row x y ≡ b → same_row y x ≡ c → (((r : Row) → count_of r xs ≡ count_of r ys) → xs ≡ ys) → x ∷ xs ≡ y ∷ ys
    by true c e f more = front (same_row_is x y e) more
    by false true e f more = front (sym (same_row_is y x f)) more
    by false false e f more =
        let apart : one_if x y ≡ 0 = ap (λ b. cond b 1 0) e in
        let other : one_if y x ≡ 0 = ap (λ b. cond b 1 0) f in
        let above = above_least x (suc y.1) ys rise.1 (omega (arith, h x, sum_by-cons (one_if x) x xs, sum_by-cons (one_if x) y ys, counted_once x, apart)) in
        let below = not_below y x.1 xs (λ k d l. up 0 (suc k) d (omega arith) (omega (arith, l))) (omega (arith, h y, sum_by-cons (one_if y) x xs, sum_by-cons (one_if y) y ys, counted_once y, other)) in
        absurd (omega (arith, above, below))

-- Rows in the order of places are those whose places rise, where both are the same rows in some order.
pub one_by_place : (live rows told : List Row) (least : ℕ) → IsPermutation live rows → IsNonDecreasingBy (λ (row : Row). row.1) rows → IsPermutation live told → Rise least told → rows ≡ told
one_by_place live rows told least p up q rise = one_order rows told least up rise (λ r. sum_by-IsPermutation (one_if r) live rows p ∙ sym (sum_by-IsPermutation (one_if r) live told q))
