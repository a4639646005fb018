-- The live runs of a text that is read tell where its records stand, and its last tail has the refs.
use Rattle.std.proofs.Common.{◌≡◌, ℕ, zero, suc, ◌+◌, ◌*◌, ◌-◌, ◌≤◌, Bool, true, false, cond, refl, sym, ap, subst, ◌∙◌, List, [], ◌∷◌, ◌++◌, length, map, take, drop, Ok, Err, arith, append_assoc, length-append}
use Rattle.std.specs.Prelude.{T, ◌&&◌, IsTrue}
use Rattle.std.specs.Bool.{passes}
use Rattle.std.specs.Int.{w64, from_be_bytes}
use Rattle.std.specs.Ordering.{is_lt}
use Rattle.std.specs.List.{AllByRecursion, AllZip, flat_map, list_all}
use Rattle.std.specs.List.Sorted.{IsPermutation}
use Rattle.std.specs.FinMap.Entries.{is_sorted}
use Rattle.std.proofs.Math.Seq.{drop-append_seam, take-append-add, take-append_seam}
use Rattle.std.proofs.lemmas.List.{drop-append-le, length-drop, take-append-le}
use Rattle.std.proofs.lemmas.List.Sorted.{IsPermutation-cons, IsPermutation-middle, IsPermutation-refl, IsPermutation-sym, IsPermutation-trans}
use Rattle.gx_model.specs.declared.objects.Kind.{Kind}
use Rattle.gx_model.specs.Texts.{Bytes, byte_cmp, same_bytes}
use Rattle.gx_model.specs.Faults.{◌>>=◌}
use Rattle.gx_model.specs.Objects.{IsNamer}
use Rattle.gx_model.specs.Histories.{Records}
use Rattle.gx_model.specs.Stores.StoreReading.{Stored}
use Rattle.gx_model.proofs.Texts.PathTests.{first, second}
use Rattle.gx_growing.specs.declared.fault.GrowingFault.TheVariants.{BadRows}
use Rattle.gx_growing.specs.GrowingText.{Row, Run, Slot, head_length, head_text, live_rows, part, placed_rows, row_cmp, rows_in, run_rows, segment_text, sorted_rows, tail_text, with_row}
use Rattle.gx_growing.specs.GrowingReading.{Front, front_of, grown_of, has_rows, is_standing, lifted, same_rows, with_rows}
use Rattle.gx_growing.specs.GrowingLaws.{HasTail, TellsRows}
use Rattle.gx_growing.proofs.RowTests.{rows_are, standing_is}
use Rattle.gx_growing.proofs.ReadFronts.{IsFront, front_is, head_long}
use Rattle.gx_growing.proofs.RowsTellPlaces.{Rise, Tells, rise_go_up, segments_rise, segments_stand, zip_length, zip_rows, zip_stand}

-- ---- sorted rows

-- a row is put among others
with_row_permuted : (row : Row) (rows : List Row) → IsPermutation (row ∷ rows) (with_row row rows)
with_row_permuted row [] = IsPermutation-refl (row ∷ [])
with_row_permuted row (r ∷ rs) = by (is_lt (row_cmp r row)) (with_row_permuted row rs)
  where
    by : (b : Bool) → IsPermutation (row ∷ rs) (with_row row rs) → IsPermutation (row ∷ r ∷ rs) (cond b (r ∷ with_row row rs) (row ∷ r ∷ rs))
    by true h = IsPermutation-trans (row ∷ r ∷ rs) (r ∷ row ∷ rs) (r ∷ with_row row rs) (IsPermutation-sym (r ∷ row ∷ rs) (row ∷ r ∷ rs) (IsPermutation-middle (r ∷ []) row rs)) (IsPermutation-cons r (row ∷ rs) (with_row row rs) h)
    by false h = IsPermutation-refl (row ∷ r ∷ rs)

-- sorted rows are the rows in another order
pub sorted_permuted : (rows : List Row) → IsPermutation rows (sorted_rows rows)
sorted_permuted [] = IsPermutation-refl []
sorted_permuted (r ∷ rs) = IsPermutation-trans (r ∷ rs) (r ∷ sorted_rows rs) (sorted_rows (r ∷ rs)) (IsPermutation-cons r rs (sorted_rows rs) (sorted_permuted rs)) (with_row_permuted r (sorted_rows rs))

-- rows that are one once they are sorted
pub same_sorted : (rows others : List Row) → sorted_rows rows ≡ sorted_rows others → IsPermutation rows others
same_sorted rows others e =
    IsPermutation-trans rows (sorted_rows others) others (subst (IsPermutation rows) e (sorted_permuted rows)) (IsPermutation-sym others (sorted_rows others) (sorted_permuted others))

-- ---- rows in a text

-- rows are read in front of what stands behind them
rows_front : (n : ℕ) (x y : Bytes) → 28 * n ≤ length x → rows_in n (x ++ y) ≡ rows_in n x
rows_front zero x y l = refl
rows_front (suc n) x y l =
    let m = length-drop 20 x in
    let k = length-drop 28 x in
    let name = take-append-le 20 x y (omega arith) in
    let place : part (x ++ y) 20 8 ≡ part x 20 8 = ap (take 8) (drop-append-le 20 x y (omega arith)) ∙ take-append-le 8 (drop 20 x) y (omega arith) in
    let rest = ap (rows_in n) (drop-append-le 28 x y (omega arith)) ∙ rows_front n (drop 28 x) y (omega arith) in
    λ i. (name i, from_be_bytes w64 (place i)) ∷ rest i

-- three tests hold where they hold together
pub three : (a b c : Bool) → T (a && b && c) → T a × T b × T c
three true true true t = (tt, tt, tt)
three true true false t = absurd t
three true false c t = absurd t
three false b c t = absurd t

module _ (digest : Bytes → Bytes) (front behind : Bytes) where
  -- the rows of a run that stands up to the end are those of the whole text
  run_rows_front : (run : Run) → T (is_standing digest front run) → run_rows (front ++ behind) run ≡ run_rows front run
  run_rows_front run t =
      let fits = (standing_is digest front run t).within in
      let l = length-drop run.place front in
      ap (rows_in run.count) (drop-append-le run.place front behind (omega arith)) ∙ rows_front run.count (drop run.place front) behind (omega arith)

  -- runs that stand are sorted
  sorted_runs : (runs : List Run) → T (list_all (is_standing digest front) runs) → AllByRecursion (λ run. IsTrue (is_sorted byte_cmp (run_rows (front ++ behind) run))) runs
  sorted_runs [] t = tt
  sorted_runs (run ∷ runs) t =
      let one = first (is_standing digest front run) (list_all (is_standing digest front) runs) t in
      let stands = standing_is digest front run one in
      (subst (λ z. IsTrue (is_sorted byte_cmp z)) (sym (run_rows_front run one)) stands.sorted, sorted_runs runs (second (is_standing digest front run) (list_all (is_standing digest front) runs) t))

  -- the rows of runs that stand are those of the whole text
  live_front : (runs : List Run) → T (list_all (is_standing digest front) runs) → live_rows (front ++ behind) runs ≡ live_rows front runs
  live_front [] t = refl
  live_front (run ∷ runs) t =
      let one = run_rows_front run (first (is_standing digest front run) (list_all (is_standing digest front) runs) t) in
      let more = live_front runs (second (is_standing digest front run) (list_all (is_standing digest front) runs) t) in
      λ i. one i ++ more i

-- ---- what was read

-- the records and refs that were read
abbrev pub held_in : Front → Records
held_in front = record { records = front.records; refs = front.refs }

-- what is read where its rows are right
pub rows_right : (digest : Bytes → Bytes) (text : Bytes) (slot : Slot) (front : Front) (r : Records) → with_rows digest text slot front ≡ Ok r
    → T (has_rows digest text slot front) × (held_in front ≡ r)
rows_right digest text slot front r e = by (has_rows digest text slot front) refl e
  where
    by : (b : Bool) → has_rows digest text slot front ≡ b → cond b (Ok (held_in front)) (Err BadRows) ≡ Ok r → T (has_rows digest text slot front) × (held_in front ≡ r)
    by true h i = let s : held_in front ≡ r = cc i in (passes _ h, s)
    by false h i = absurd (cc)

module _ (name : Kind → Bytes → Bytes) (digest : Bytes → Bytes) where
  -- a text that is read has a front, and its rows are right
  pub grown_parts : (text : Bytes) (r : Records) → grown_of name digest text ≡ Ok r
      → (x : Slot × Front) × (front_of name text ≡ Ok x) × T (has_rows digest (take x.0.ends text) x.0 x.1) × (held_in x.1 ≡ r)
  unfolding grown_of
  grown_parts text r e = by (front_of name text) refl e
    where
      by : (s : Stored (Slot × Front)) → front_of name text ≡ s → (lifted s >>= λ read. with_rows digest (take read.0.ends text) read.0 read.1) ≡ Ok r
          → (x : Slot × Front) × (front_of name text ≡ Ok x) × T (has_rows digest (take x.0.ends text) x.0 x.1) × (held_in x.1 ≡ r)
      by (Ok x) h i = let right = rows_right digest (take x.0.ends text) x.0 x.1 r i in (x, h, right.0, right.1)
      by (Err f) h i = absurd (cc)

  -- a text up to the end that its slot says
  pub up_to_end : (text : Bytes) (x : Slot × Front) (f : IsFront name text x) → take x.0.ends text ≡ head_text f.read.pick f.read.first f.read.second ++ flat_map segment_text (f.before ++ f.last ∷ [])
  up_to_end text x f =
      let head = head_text f.read.pick f.read.first f.read.second in
      let all = flat_map segment_text (f.before ++ f.last ∷ []) in
      (λ i. take (f.ends i) (f.spelled i))
      ∙ ap (λ n. take (n + length all) (head ++ (all ++ f.behind))) (sym (head_long f.read.pick f.read.first f.read.second f.read.head))
      ∙ take-append-add head (all ++ f.behind) (length all)
      ∙ ap (λ z. head ++ z) (take-append_seam all f.behind)

  -- the last tail of a text that is read stands where its slot says
  pub last_tail : (text : Bytes) (x : Slot × Front) (f : IsFront name text x) → drop x.0.tail (take x.0.ends text) ≡ x.1.tail
  last_tail text x f =
      let head = head_text f.read.pick f.read.first f.read.second in
      let all = flat_map segment_text (f.before ++ f.last ∷ []) in
      let front = head ++ f.ended.0 in
      let whole : take x.0.ends text ≡ front ++ x.1.tail = up_to_end text x f ∙ ap (λ z. head ++ z) f.ended.1 ∙ sym (append_assoc head f.ended.0 x.1.tail) in
      let place : x.0.tail ≡ length front =
      sym f.begun ∙ less x.0.ends (length all) (length f.ended.0) (length x.1.tail) (length front) f.ends (ap length f.ended.1 ∙ length-append f.ended.0 x.1.tail)
      (length-append head f.ended.0 ∙ ap (λ n. n + length f.ended.0) (head_long f.read.pick f.read.first f.read.second f.read.head)) in
      (λ i. drop (place i) (whole i)) ∙ drop-append_seam front x.1.tail
    where
      less : (ends all begun tail front : ℕ) → ends ≡ head_length + all → all ≡ begun + tail → front ≡ head_length + begun → ends - tail ≡ front
      less ends all begun tail front e g h = omega arith

  -- the runs of the last tail tell where the records stand
  rows_of_front : (text : Bytes) (x : Slot × Front) (f : IsFront name text x) → T (has_rows digest (take x.0.ends text) x.0 x.1) → TellsRows text x.1.runs (held_in x.1)
  rows_of_front text x f t =
      let head = head_text f.read.pick f.read.first f.read.second in
      let all = f.before ++ f.last ∷ [] in
      let front = take x.0.ends text in
      let parts = three (same_bytes x.0.digest (digest x.1.tail)) (list_all (is_standing digest front) x.1.runs) (same_rows (sorted_rows (live_rows front x.1.runs)) (sorted_rows x.1.rows)) t in
      let split : front ++ f.behind ≡ text = ap (λ z. z ++ f.behind) (up_to_end text x f) ∙ append_assoc head (flat_map segment_text all) f.behind ∙ sym f.spelled in
      let long = head_long f.read.pick f.read.first f.read.second f.read.head in
      let stand : AllZip (Tells text) x.1.rows x.1.records =
      subst (λ n. AllZip (Tells text) n x.1.records) (ap (λ n. placed_rows n all) long ∙ sym f.rows)
      (subst (AllZip (Tells text) (placed_rows (length head) all)) (sym f.records) (segments_stand text head all f.behind f.spelled)) in
      let live : live_rows text x.1.runs ≡ live_rows front x.1.runs = ap (λ z. live_rows z x.1.runs) (sym split) ∙ live_front digest front f.behind x.1.runs parts.1 in
      record {
        sorted = subst (λ z. AllByRecursion (λ run. IsTrue (is_sorted byte_cmp (run_rows z run))) x.1.runs) split (sorted_runs digest front f.behind x.1.runs parts.1);
        places = map (λ row. row.1) x.1.rows;
        all = zip_length text x.1.rows x.1.records stand;
        up = rise_go_up head_length x.1.rows (subst (Rise head_length) (sym f.rows) (segments_rise head_length all));
        stand = zip_stand text x.1.rows x.1.records stand;
        told = subst (IsPermutation (live_rows text x.1.runs)) (sym (zip_rows text x.1.rows x.1.records stand))
            (same_sorted (live_rows text x.1.runs) x.1.rows (ap sorted_rows live ∙ rows_are (sorted_rows (live_rows front x.1.runs)) (sorted_rows x.1.rows) parts.2));
      }

  -- the tail of a text that is read has the repository's refs, and its runs tell where the records stand
  pub rows_tell : IsNamer name → (text : Bytes) (r : Records) → grown_of name digest text ≡ Ok r → (runs : List Run) × HasTail text runs r.refs × TellsRows text runs r
  rows_tell namer text r e =
      let g = grown_parts text r e in
      let x = g.0 in
      let f = front_is name namer text x g.1 in
      let refs : f.last.refs ≡ r.refs = sym f.refs ∙ ap (λ (z : Records). z.refs) g.3 in
      let tail : drop x.0.tail (take x.0.ends text) ≡ tail_text x.1.runs r.refs = last_tail text x f ∙ f.tail ∙ (λ i. tail_text (sym f.runs i) (refs i)) in
      (x.1.runs, (x.0, f.rest, f.head_is, tail), subst (TellsRows text x.1.runs) g.3 (rows_of_front text x f g.2))
