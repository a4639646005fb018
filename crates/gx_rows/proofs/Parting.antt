-- What a look at one row tells of the others.
use Rattle.std.proofs.Common.{◌≡◌, inl, inr, ℕ, ◌+◌, ◌<◌, ◌≤◌, Bool, true, false, Option, Some, None, refl, sym, ap, ◌∙◌, subst, arith}
use Rattle.std.proofs.lemmas.Bool.{false≢true, cases_eq, cases_lt}
use Rattle.std.proofs.lemmas.Cmp.{nat_list_cmp_total}
use Rattle.std.specs.Ordering.{is_lt, ordering_reverse}
use Rattle.std.specs.declared.cmp.Ordering.{Ordering}
use Rattle.std.specs.declared.cmp.Ordering.TheVariants.{Less, Equal, Greater}
use Rattle.gx_model.specs.Texts.{Bytes, byte_cmp}
use Rattle.gx_rows.specs.declared.row.Row.{Row}
use Rattle.gx_rows.specs.Rows.{EndsFront, FindsIn, IsBefore, IsRow, Parts, row_name}

-- ---- the order of names

is_less : (o : Ordering) → is_lt o ≡ true → o ≡ Less
is_less Less e = refl
is_less Equal e = absurd (false≢true e)
is_less Greater e = absurd (false≢true e)

joined : (x y z : Bytes) → IsBefore x y → IsBefore y z → IsBefore x z
joined x y z l m = ap is_lt (nat_list_cmp_total.trans x y z (is_less (byte_cmp x y) l) (is_less (byte_cmp y z) m))

turned : (o : Ordering) → o ≡ ordering_reverse o → is_lt o ≡ false
turned Less e = ap is_lt e
turned Equal e = refl
turned Greater e = refl

not_itself : (x : Bytes) → is_lt (byte_cmp x x) ≡ false
not_itself x = turned (byte_cmp x x) (nat_list_cmp_total.antisymm x x)

not_true : (b : Bool) → (b ≡ true → ⊥) → b ≡ false
not_true true h = absurd (h refl)
not_true false h = refl

-- ---- halves

pub parts_none : (told : Option Bytes) (at count : ℕ) (name : Bytes) → Parts told at count name 0 count
parts_none None at count name = tt
parts_none (Some text) at count name = λ sorted. record {
  before = λ row front. absurd (omega (arith, front));
  behind = λ row high within. absurd (omega (arith, high, within));
}

module _ (at count : ℕ) (name : Bytes) (low high middle : ℕ) (row : Row) (above : low ≤ middle) (below : middle < high) (within : high ≤ count) where
  pub parts_low : (told : Option Bytes) → IsRow told at middle row → is_lt (byte_cmp row.name name) ≡ true → Parts told at count name low high → Parts told at count name (middle + 1) high
  parts_low None told less so_far = tt
  parts_low (Some text) told less so_far = λ sorted.
      let here : IsBefore (row_name text at middle) name = subst (λ (x : Bytes). IsBefore x name) told.name less in
      let by : (other : ℕ) → other < middle + 1 → IsBefore (row_name text at other) name =
      (λ other front. elim (cases_eq other middle) [
        | inl same ↦ subst (λ (k : ℕ). IsBefore (row_name text at k) name) (sym same) here
        | inr apart ↦ joined (row_name text at other) (row_name text at middle) name (sorted other middle (omega (arith, front, apart)) (omega (arith, below, within))) here
      ]) in
      record { before = by; behind = (so_far sorted).behind }

  pub parts_high : (told : Option Bytes) → IsRow told at middle row → is_lt (byte_cmp row.name name) ≡ false → Parts told at count name low high → Parts told at count name low middle
  parts_high None told not_less so_far = tt
  parts_high (Some text) told not_less so_far = λ sorted.
      let here : is_lt (byte_cmp (row_name text at middle) name) ≡ false = subst (λ (x : Bytes). is_lt (byte_cmp x name) ≡ false) told.name not_less in
      let by : (other : ℕ) → middle ≤ other → other < count → is_lt (byte_cmp (row_name text at other) name) ≡ false =
      (λ other behind in_table. elim (cases_eq other middle) [
        | inl same ↦ subst (λ (k : ℕ). is_lt (byte_cmp (row_name text at k) name) ≡ false) (sym same) here
        | inr apart ↦ not_true _ (λ less. false≢true (sym here ∙ joined (row_name text at middle) (row_name text at other) name (sorted middle other (omega (arith, behind, apart)) in_table) less))
      ]) in
      record { before = (so_far sorted).before; behind = by }

pub parts_end : (told : Option Bytes) (at count : ℕ) (name : Bytes) (low high : ℕ) → low ≡ high → Parts told at count name low high → EndsFront told at count name low
parts_end told at count name low high same so_far = subst (λ (k : ℕ). Parts told at count name low k) (sym same) so_far

-- ---- what is found

pub found_here : (told : Option Bytes) (at count : ℕ) (name : Bytes) (row : ℕ) (held : Row) → row < count → IsRow told at row held → held.name ≡ name → FindsIn told at count name (Some (record { row = row; place = held.place }))
found_here None at count name row held within is same = tt
found_here (Some text) at count name row held within is same = record { within = within; name_is = sym is.name ∙ same; place_is = sym is.place }

pub found_none : (told : Option Bytes) (at count : ℕ) (name : Bytes) (rows : ℕ) → EndsFront told at count name rows → count ≤ rows → FindsIn told at count name None
found_none None at count name rows ends past = tt
found_none (Some text) at count name rows ends past = λ sorted row within same.
    false≢true (sym (not_itself name) ∙ subst (λ (x : Bytes). IsBefore x name) same ((ends sorted).before row (omega (arith, within, past))))

pub found_other : (told : Option Bytes) (at count : ℕ) (name : Bytes) (rows : ℕ) (held : Row) → EndsFront told at count name rows → rows < count → IsRow told at rows held → ¬ (held.name ≡ name) → FindsIn told at count name None
found_other None at count name rows held ends within is other = tt
found_other (Some text) at count name rows held ends within is other = λ sorted row in_table same.
    let behind : is_lt (byte_cmp (row_name text at rows) name) ≡ false = (ends sorted).behind rows (omega arith) within in
    let apart : ¬ (row ≡ rows) = (λ here. other (is.name ∙ ap (row_name text at) (sym here) ∙ same)) in
    elim (cases_lt row rows) [
      | inl front ↦ false≢true (sym (not_itself name) ∙ subst (λ (x : Bytes). IsBefore x name) same ((ends sorted).before row front))
      | inr not_front ↦ false≢true (sym behind ∙ subst (λ (x : Bytes). IsBefore (row_name text at rows) x) same (sorted rows row (omega (arith, not_front, apart)) in_table))
    ]
