-- The rows of a run between two names, by the first row that isn't before them and the next; and of runs together.
use Rattle.std.proofs.Common.{◌≡◌, ◌≢◌, ◌⊎◌, inl, inr, ℕ, ◌+◌, ◌<◌, ◌≤◌, Bool, true, false, not, ◌&&◌, List, [], ◌∷◌, ◌++◌, map, drop, take, get_or, length, Option, Some, None, refl, sym, ap, ◌∙◌, subst, arith}
use Rattle.std.specs.List.{Contains}
use Rattle.std.specs.Ordering.{is_le, is_lt, ordering_reverse}
use Rattle.std.specs.declared.cmp.Ordering.{Ordering}
use Rattle.std.specs.declared.cmp.Ordering.TheVariants.{Less, Equal, Greater}
use Rattle.std.proofs.lemmas.Bool.{cases_eq, cases_lt, false≢true}
use Rattle.std.proofs.lemmas.Cmp.{nat_list_cmp_total}
use Rattle.std.proofs.lemmas.Grind.{flat_map-append, take_at_read}
use Rattle.std.proofs.lemmas.List.{map-append}
use Rattle.std.proofs.lemmas.List.Elements.{Contains-append_cases, Contains-append_left, Contains-append_right}
use Rattle.gx_model.specs.Texts.{Bytes, byte_cmp}
use Rattle.gx_object.specs.declared.name.Name.{Name}
use Rattle.gx_growing.specs.GrowingText.{Row, live_rows, run_rows}
use Rattle.gx_growing_parts.specs.Shown.{shown_run}
use Rattle.gx_growing_parts.specs.declared.runs.Run.{Run as GivenRun}
use Rattle.gx_rows.specs.Rows.{AreSorted, FrontsIn, IsBefore, IsParted, IsRowOf, StandsAsRow, row_name, row_place}
use Rattle.gx_rows.specs.declared.finding.Front.{Front}
use Rattle.gx_rows.specs.declared.row.Row.{Row as GivenRow}
use Rattle.gx_store.specs.NameOrder.{is_within}
use Rattle.gx_store.specs.declared.prefix.Prefix.{Prefix}
use Rattle.gx_store.specs.declared.prefix.Prefix.TheVariants.{Unique, Absent, Ambiguous}
use Rattle.gx_look.specs.Rows.{AreSorted as AreInOrder, BegunIn, IsBetween, IsFoundOf, Joins}
use Rattle.gx_look.proofs.FoundTogether.{found_alike, found_apart, found_before_none, found_behind_none, found_two, found_two_behind}
use Rattle.gx_look.proofs.RowsOfRuns.{rows_long, run_row, table_sorted}

-- ---- the order of names

is_less : (o : Ordering) → is_lt o ≡ true → o ≡ Less
is_less Less e = refl
is_less Equal e = absurd (false≢true e)
is_less Greater e = absurd (false≢true e)

both_false : (b : Bool) → (b && false) ≡ false
both_false true = refl
both_false false = refl

module _ (least greatest x : Bytes) where
  -- what stands before the first isn't between
  before_between : is_lt (byte_cmp x least) ≡ true → is_within least greatest x ≡ false
  before_between l = ap (λ o. is_le o && not (is_lt (byte_cmp greatest x))) (nat_list_cmp_total.antisymm least x ∙ ap ordering_reverse (is_less (byte_cmp x least) l))

  -- nor is what stands behind the last
  behind_between : is_lt (byte_cmp greatest x) ≡ true → is_within least greatest x ≡ false
  behind_between l = ap (λ b. is_le (byte_cmp least x) && not b) l ∙ both_false (is_le (byte_cmp least x))

  -- what isn't before the first, and isn't between, stands behind the last
  not_between : is_lt (byte_cmp x least) ≡ false → is_within least greatest x ≡ false → is_lt (byte_cmp greatest x) ≡ true
  not_between l e = last (is_lt (byte_cmp greatest x)) (ap (λ b. b && not (is_lt (byte_cmp greatest x))) (sym above) ∙ e)
    where
      turned : (o : Ordering) → is_lt o ≡ false → is_le (ordering_reverse o) ≡ true
      turned Less e = absurd (false≢true (sym e))
      turned Equal e = refl
      turned Greater e = refl

      above : is_le (byte_cmp least x) ≡ true
      above = ap is_le (nat_list_cmp_total.antisymm least x) ∙ turned (byte_cmp x least) l

      last : (b : Bool) → not b ≡ false → b ≡ true
      last true e = refl
      last false e = absurd (false≢true (sym e))

not_itself : (x y : Bytes) → x ≡ y → IsBefore x y → ⊥
not_itself x y e l = false≢true (sym (turned (byte_cmp x x) (nat_list_cmp_total.antisymm x x)) ∙ subst (IsBefore x) (sym e) l)
  where
    turned : (o : Ordering) → o ≡ ordering_reverse o → is_lt o ≡ false
    turned Less e = ap is_lt e
    turned Equal e = refl
    turned Greater e = refl

-- ---- one run

module _ (text : Bytes) (run : GivenRun) (ends : Name × Name) where
  abbrev Is : Bytes → Type 0
  Is = IsBetween text (shown_run run ∷ []) ends

  abbrev is_in : ℕ → Bool
  is_in i = is_within ends.0.bytes ends.1.bytes (row_name text run.place i)

  -- a name between them stands in a row
  in_row : (n : Bytes) → Is n → (i : ℕ) × (i < run.count) × (row_name text run.place i ≡ n) × (is_in i ≡ true)
  in_row n h = elim (Contains-append_cases (run_rows text (shown_run run)) [] (n, h.place) h.row) [
    | inl k ↦ (
        let long = rows_long run.count (drop run.place text) in
        let lt = k.1 in
        let within : k.0 < run.count = omega arith in
        let name : row_name text run.place k.0 ≡ n = ap (λ (r : Row). r.0) (sym (run_row text run.place run.count k.0 (n, h.place) within) ∙ k.2) in
        (k.0, within, name, subst (λ z. is_within ends.0.bytes ends.1.bytes z ≡ true) (sym name) h.within))
    | inr k ↦ absurd (omega (arith, k.1))
  ]

  -- and a row's name may be one
  of_row : (i : ℕ) → i < run.count → is_in i ≡ true → Is (row_name text run.place i)
  of_row i within between =
      let row : Row = (row_name text run.place i, row_place text run.place i) in
      let long = rows_long run.count (drop run.place text) in
      record {
        place = row_place text run.place i;
        row = Contains-append_left (run_rows text (shown_run run)) [] row (i, omega arith, run_row text run.place run.count i row within);
        within = between;
      }

  module _ (front : Front) (h : FrontsIn (Some text) run.place run.count ends.0.bytes front) (sorted : AreSorted text run.place run.count) where
    parted : IsParted text run.place run.count ends.0.bytes front.count front.count
    parted = h.ends sorted

    -- no row in front is one
    none_before : (i : ℕ) → i < front.count → is_in i ≡ true → ⊥
    none_before i l e = false≢true (sym (before_between ends.0.bytes ends.1.bytes (row_name text run.place i) (parted.before i l)) ∙ e)

    -- where a row behind them isn't, no later one is
    none_behind : (k : ℕ) → front.count ≤ k → k < run.count → is_in k ≡ false → (i : ℕ) → k ≤ i → i < run.count → is_in i ≡ true → ⊥
    none_behind k from within out i l m e = elim (cases_eq i k) [
      | inl same ↦ false≢true (sym out ∙ ap is_in (sym same) ∙ e)
      | inr apart ↦ (
          let above = not_between ends.0.bytes ends.1.bytes (row_name text run.place k) (parted.behind k from within) out in
          let next = sorted k i (omega (arith, l, apart)) m in
          let last = ap is_lt (nat_list_cmp_total.trans ends.1.bytes (row_name text run.place k) (row_name text run.place i) (is_less _ above) (is_less _ next)) in
          false≢true (sym (behind_between ends.0.bytes ends.1.bytes (row_name text run.place i) last) ∙ e))
    ]

    -- no row is one
    no_row : ((i : ℕ) → front.count ≤ i → i < run.count → is_in i ≡ true → ⊥) → IsFoundOf Is Absent
    no_row none n k = let r = in_row n k in elim (cases_lt r.0 front.count) [
      | inl l ↦ none_before r.0 l r.3
      | inr l ↦ none r.0 l r.1 r.3
    ]

    -- a row that is told is one of the run's, and where none is told there are no more
    told_row : (k : ℕ) (o : Option GivenRow) (found : GivenRow) → StandsAsRow (Some text) run.place run.count k o → o ≡ Some found → (k < run.count) × IsRowOf text run.place k found
    told_row k o found s e = subst (StandsAsRow (Some text) run.place run.count k) e s

    last_row : (k : ℕ) (o : Option GivenRow) → StandsAsRow (Some text) run.place run.count k o → o ≡ None → (i : ℕ) → k ≤ i → i < run.count → is_in i ≡ true → ⊥
    last_row k o s e i l m b = let all : run.count ≤ k = subst (StandsAsRow (Some text) run.place run.count k) e s in omega (arith, all, l, m)

    -- a row that is told and isn't one is behind them all
    row_out : (k : ℕ) (o : Option GivenRow) (found : GivenRow) → StandsAsRow (Some text) run.place run.count k o → o ≡ Some found → front.count ≤ k → is_within ends.0.bytes ends.1.bytes found.name ≡ false
        → (i : ℕ) → k ≤ i → i < run.count → is_in i ≡ true → ⊥
    row_out k o found s e from out =
        let row = told_row k o found s e in
        none_behind k from row.0 (ap (is_within ends.0.bytes ends.1.bytes) (sym row.1.name) ∙ out)

    -- the first one alone
    one_row : (first : GivenRow) → front.first ≡ Some first → is_within ends.0.bytes ends.1.bytes first.name ≡ true → ((i : ℕ) → front.count + 1 ≤ i → i < run.count → is_in i ≡ true → ⊥)
        → IsFoundOf Is (Unique (record { bytes = first.name }))
    one_row first e between none =
        let row = told_row front.count front.first first h.first e in (
          subst Is (sym row.1.name) (of_row front.count row.0 (ap (is_within ends.0.bytes ends.1.bytes) (sym row.1.name) ∙ between)),
          λ n k.
              let r = in_row n k in
              elim (cases_lt r.0 front.count) [
                | inl l ↦ absurd (none_before r.0 l r.3)
                | inr l ↦ elim (cases_eq r.0 front.count) [
                  | inl same ↦ sym r.2 ∙ ap (row_name text run.place) same ∙ sym row.1.name
                  | inr apart ↦ absurd (none r.0 (omega (arith, l, apart)) r.1 r.3)
                ]
              ],
        )

    -- two that differ
    two_rows : (first second : GivenRow) → front.first ≡ Some first → is_within ends.0.bytes ends.1.bytes first.name ≡ true → front.second ≡ Some second → is_within ends.0.bytes ends.1.bytes second.name ≡ true → IsFoundOf Is Ambiguous
    two_rows first second e between f also =
        let row = told_row front.count front.first first h.first e in
        let next = told_row (front.count + 1) front.second second h.second f in
        let one : Is first.name = subst Is (sym row.1.name) (of_row front.count row.0 (ap (is_within ends.0.bytes ends.1.bytes) (sym row.1.name) ∙ between)) in
        let other : Is second.name = subst Is (sym next.1.name) (of_row (front.count + 1) next.0 (ap (is_within ends.0.bytes ends.1.bytes) (sym next.1.name) ∙ also)) in
        let apart = sorted front.count (front.count + 1) (omega arith) next.0 in
        (first.name, second.name, one, other, λ same. not_itself (row_name text run.place front.count) (row_name text run.place (front.count + 1)) (sym row.1.name ∙ same ∙ next.1.name) apart)

module _ (run : GivenRun) (ends : Name × Name) (front : Front) where
  -- what a run has between two names, by the two rows
  abbrev Front_of : Option Bytes → Type 0
  Front_of told = FrontsIn told run.place run.count ends.0.bytes front

  in_table : (text : Bytes) → AreInOrder text (map shown_run (run ∷ [])) → AreSorted text run.place run.count
  in_table text sorted = table_sorted text run.place run.count sorted.0

  pub run_empty : (told : Option Bytes) → Front_of told → front.first ≡ None → BegunIn told (run ∷ []) ends Absent
  run_empty None h e = tt
  run_empty (Some text) h e = λ sorted. no_row text run ends front h (in_table text sorted) (last_row text run ends front h (in_table text sorted) front.count front.first h.first e)

  pub run_out : (told : Option Bytes) (first : GivenRow) → Front_of told → front.first ≡ Some first → is_within ends.0.bytes ends.1.bytes first.name ≡ false → BegunIn told (run ∷ []) ends Absent
  run_out None first h e out = tt
  run_out (Some text) first h e out = λ sorted. no_row text run ends front h (in_table text sorted) (row_out text run ends front h (in_table text sorted) front.count front.first first h.first e (omega arith) out)

  pub run_one : (told : Option Bytes) (first : GivenRow) → Front_of told → front.first ≡ Some first → is_within ends.0.bytes ends.1.bytes first.name ≡ true → front.second ≡ None → BegunIn told (run ∷ []) ends (Unique (record { bytes = first.name }))
  run_one None first h e between f = tt
  run_one (Some text) first h e between f = λ sorted. one_row text run ends front h (in_table text sorted) first e between (last_row text run ends front h (in_table text sorted) (front.count + 1) front.second h.second f)

  pub run_next_out : (told : Option Bytes) (first second : GivenRow) → Front_of told → front.first ≡ Some first → is_within ends.0.bytes ends.1.bytes first.name ≡ true → front.second ≡ Some second → is_within ends.0.bytes ends.1.bytes second.name ≡ false
      → BegunIn told (run ∷ []) ends (Unique (record { bytes = first.name }))
  run_next_out None first second h e between f out = tt
  run_next_out (Some text) first second h e between f out = λ sorted. one_row text run ends front h (in_table text sorted) first e between (row_out text run ends front h (in_table text sorted) (front.count + 1) front.second second h.second f (omega arith) out)

  pub run_two : (told : Option Bytes) (first second : GivenRow) → Front_of told → front.first ≡ Some first → is_within ends.0.bytes ends.1.bytes first.name ≡ true → front.second ≡ Some second → is_within ends.0.bytes ends.1.bytes second.name ≡ true
      → BegunIn told (run ∷ []) ends Ambiguous
  run_two None first second h e between f also = tt
  run_two (Some text) first second h e between f also = λ sorted. two_rows text run ends front h (in_table text sorted) first second e between f also

-- ---- runs together

-- no runs have nothing
pub begun_none : (told : Option Bytes) (ends : Name × Name) → BegunIn told [] ends Absent
begun_none None ends = tt
begun_none (Some text) ends = λ sorted n h. let nowhere = h.row.1 in absurd (omega (arith, nowhere))

module _ (text : Bytes) (front behind : List GivenRun) (ends : Name × Name) where
  live_both : live_rows text (map shown_run (front ++ behind)) ≡ live_rows text (map shown_run front) ++ live_rows text (map shown_run behind)
  live_both = ap (live_rows text) (map-append shown_run front behind) ∙ flat_map-append (run_rows text) (map shown_run front) (map shown_run behind)

  in_either : (n : Bytes) → IsBetween text (map shown_run (front ++ behind)) ends n → IsBetween text (map shown_run front) ends n ⊎ IsBetween text (map shown_run behind) ends n
  in_either n h = elim (Contains-append_cases (live_rows text (map shown_run front)) (live_rows text (map shown_run behind)) (n, h.place) (subst (λ z. Contains z (n, h.place)) live_both h.row)) [
    | inl k ↦ inl (record { place = h.place; row = k; within = h.within })
    | inr k ↦ inr (record { place = h.place; row = k; within = h.within })
  ]

  in_front : (n : Bytes) → IsBetween text (map shown_run front) ends n → IsBetween text (map shown_run (front ++ behind)) ends n
  in_front n h = let row : Row = (n, h.place) in record {
    place = h.place;
    row = subst (λ z. Contains z row) (sym live_both) (Contains-append_left (live_rows text (map shown_run front)) (live_rows text (map shown_run behind)) row h.row);
    within = h.within;
  }

  in_behind : (n : Bytes) → IsBetween text (map shown_run behind) ends n → IsBetween text (map shown_run (front ++ behind)) ends n
  in_behind n h = let row : Row = (n, h.place) in record {
    place = h.place;
    row = subst (λ z. Contains z row) (sym live_both) (Contains-append_right (live_rows text (map shown_run front)) (live_rows text (map shown_run behind)) row h.row);
    within = h.within;
  }

  abbrev One : Bytes → Type 0
  One = IsBetween text (map shown_run front) ends

  abbrev Other : Bytes → Type 0
  Other = IsBetween text (map shown_run behind) ends

  abbrev Both : Bytes → Type 0
  Both = IsBetween text (map shown_run (front ++ behind)) ends

orders : (text : Bytes) (front behind : List GivenRun) → AreInOrder text (map shown_run (front ++ behind)) → AreInOrder text (map shown_run front) × AreInOrder text (map shown_run behind)
orders text [] behind h = (tt, h)
orders text (r ∷ rs) behind h = let more = orders text rs behind h.1 in ((h.0, more.0), more.1)

pub joins_none : (more : Prefix) → Joins Absent more more
joins_none more None front behind ends f m = tt
joins_none more (Some text) front behind ends f m = λ sorted. let o = orders text front behind sorted in
    found_behind_none (One text front behind ends) (Other text front behind ends) (Both text front behind ends) (in_either text front behind ends) (in_front text front behind ends) (in_behind text front behind ends) more (f o.0) (m o.1)

pub joins_one : (name : Name) → Joins (Unique name) Absent (Unique name)
joins_one name None front behind ends f m = tt
joins_one name (Some text) front behind ends f m = λ sorted. let o = orders text front behind sorted in
    found_before_none (One text front behind ends) (Other text front behind ends) (Both text front behind ends) (in_either text front behind ends) (in_front text front behind ends) (in_behind text front behind ends) name (f o.0) (m o.1)

pub joins_alike : (name other : Name) → name.bytes ≡ other.bytes → Joins (Unique name) (Unique other) (Unique name)
joins_alike name other e None front behind ends f m = tt
joins_alike name other e (Some text) front behind ends f m = λ sorted. let o = orders text front behind sorted in
    found_alike (One text front behind ends) (Other text front behind ends) (Both text front behind ends) (in_either text front behind ends) (in_front text front behind ends) (in_behind text front behind ends) name other e (f o.0) (m o.1)

pub joins_apart : (name other : Name) → (name.bytes ≢ other.bytes) → Joins (Unique name) (Unique other) Ambiguous
joins_apart name other e None front behind ends f m = tt
joins_apart name other e (Some text) front behind ends f m = λ sorted. let o = orders text front behind sorted in
    found_apart (One text front behind ends) (Other text front behind ends) (Both text front behind ends) (in_either text front behind ends) (in_front text front behind ends) (in_behind text front behind ends) name other e (f o.0) (m o.1)

pub joins_two : (more : Prefix) → Joins Ambiguous more Ambiguous
joins_two more None front behind ends f m = tt
joins_two more (Some text) front behind ends f m = λ sorted. let o = orders text front behind sorted in
    found_two (One text front behind ends) (Other text front behind ends) (Both text front behind ends) (in_either text front behind ends) (in_front text front behind ends) (in_behind text front behind ends) (f o.0)

pub joins_two_behind : (found : Prefix) → Joins found Ambiguous Ambiguous
joins_two_behind found None front behind ends f m = tt
joins_two_behind found (Some text) front behind ends f m = λ sorted. let o = orders text front behind sorted in
    found_two_behind (One text front behind ends) (Other text front behind ends) (Both text front behind ends) (in_either text front behind ends) (in_front text front behind ends) (in_behind text front behind ends) (m o.1)

-- with one run more
pub with_run : (told : Option Bytes) (runs : List GivenRun) (i : ℕ) (d : GivenRun) (ends : Name × Name) (found more result : Prefix) → i < length runs → Joins found more result → BegunIn told (take i runs) ends found → BegunIn told (get_or runs i d ∷ []) ends more
    → BegunIn told (take (i + 1) runs) ends result
with_run told runs i d ends found more result within joins f m = subst (λ z. BegunIn told z ends result) (sym (take_at_read runs i d within).1) (joins told (take i runs) (get_or runs i d ∷ []) ends f m)
