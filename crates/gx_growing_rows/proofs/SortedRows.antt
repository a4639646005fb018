-- Rows that a program sorts are the sorted ones.
use Rattle.std.proofs.Common.{◌≡◌, ℕ, suc, ◌<◌, ◌≤◌, Bool, true, false, cond, refl, sym, ap, ◌∙◌, List, [], ◌∷◌, length, get_or, arith}
use Rattle.std.specs.Prelude.{⊤, nat_eq, nat_lt}
use Rattle.std.specs.Bool.{passes}
use Rattle.std.specs.Cmp.{IsStrictWeakOrder, IsTotalOrder}
use Rattle.std.specs.Cmp.Lexicographic.{nat_list_cmp_total}
use Rattle.std.specs.List.{AllByRecursion, sum_by}
use Rattle.std.specs.List.Sorted.{IsPermutation, IsSortedBy}
use Rattle.std.specs.Ordering.{is_eq, is_lt, nat_cmp, ordering_reverse, ordering_then}
use Rattle.std.specs.declared.cmp.Ordering.{Ordering}
use Rattle.std.specs.declared.cmp.Ordering.TheVariants.{Less, Equal, Greater}
use Rattle.std.proofs.lemmas.Bool.{and_from, and_parts, false≢true, true≢false}
use Rattle.std.proofs.lemmas.Cmp.{nat_cmp_total, on_total, then_total}
use Rattle.std.proofs.lemmas.List.Sorted.{ranks_by, sorted_far, sum_by-IsPermutation}
use Rattle.std.proofs.lemmas.List.Sums.{sum_by-cons}
use Rattle.std.proofs.lemmas.Map.Text.{is_eq-slice_cmp}
use Rattle.gx_model.specs.Texts.{byte_cmp, same_bytes}
use Rattle.gx_growing.specs.GrowingText.{Row, row_cmp, sorted_rows, with_row}
use Rattle.gx_growing.specs.GrowingReading.{same_row}
use Rattle.gx_growing.proofs.RowTests.{are_rows, rows_are}
use Rattle.gx_growing.proofs.RowsTell.{sorted_permuted}

-- ---- the order of rows

-- whether a row stands before another
abbrev less : Row → Row → Bool
less x y = is_lt (row_cmp x y)

rows_total : IsTotalOrder row_cmp
rows_total = then_total (on_total (λ (r : Row). r.0) nat_list_cmp_total) (on_total (λ (r : Row). r.1) nat_cmp_total)

rows_ranked : IsStrictWeakOrder less
rows_ranked = ranks_by rows_total (λ r. r)

-- rows that pass the test are equal
pub same_row_is : (x y : Row) → same_row x y ≡ true → x ≡ y
same_row_is x y h = by (rows_are (x ∷ []) (y ∷ []) (passes _ (and_from _ true h refl)))
  where
    by : x ∷ [] ≡ y ∷ [] → x ≡ y
    by e = ap (λ l. get_or l 0 x) e

row_itself : (x : Row) → same_row x x ≡ true
row_itself x = (and_parts (same_row x x) true (are_rows (x ∷ []) (x ∷ []) refl)).0

same_number : (a b : ℕ) → is_eq (nat_cmp a b) ≡ true → nat_eq a b ≡ true
same_number a b h = by (nat_lt a b) (nat_eq a b) h
  where
    by : (s t : Bool) → is_eq (cond s Less (cond t Equal Greater)) ≡ true → t ≡ true
    by true t e = absurd (false≢true e)
    by false true e = refl
    by false false e = absurd (false≢true e)

-- rows of which neither stands before the other pass the test
level : (x y : Row) → less x y ≡ false → less y x ≡ false → same_row x y ≡ true
level x y h k = by (byte_cmp x.0 y.0) (nat_cmp x.1 y.1) refl refl (neither (row_cmp x y) h (ap is_lt (sym (rows_total.antisymm y x)) ∙ k))
  where
    neither : (o : Ordering) → is_lt o ≡ false → is_lt (ordering_reverse o) ≡ false → is_eq o ≡ true
    neither Less p q = absurd (true≢false p)
    neither Equal p q = refl
    neither Greater p q = absurd (true≢false q)

    by : (o p : Ordering) → byte_cmp x.0 y.0 ≡ o → nat_cmp x.1 y.1 ≡ p → is_eq (row_cmp x y) ≡ true → same_row x y ≡ true
    by Less p e f h = absurd (false≢true (sym (ap (λ o. is_eq (ordering_then o (nat_cmp x.1 y.1))) e) ∙ h))
    by Equal p e f h =
        let places = sym (ap (λ o. is_eq (ordering_then o (nat_cmp x.1 y.1))) e) ∙ h in
        and_from (same_bytes x.0 y.0) (nat_eq x.1 y.1) (sym (is_eq-slice_cmp x.0 y.0) ∙ ap is_eq e) (same_number x.1 y.1 places)
    by Greater p e f h = absurd (false≢true (sym (ap (λ o. is_eq (ordering_then o (nat_cmp x.1 y.1))) e) ∙ h))

-- ---- rows that go up

-- no row of these stands before this one
abbrev NoneBefore : Row → List Row → Type 0
NoneBefore x = AllByRecursion (λ y. less y x ≡ false)

-- no row stands before one that is in front of it
abbrev GoUp : List Row → Type 0
GoUp [] = ⊤
GoUp (x ∷ xs) = NoneBefore x xs × GoUp xs

none_before : (x : Row) (xs : List Row) → ((k : ℕ) → k < length xs → less (get_or xs k x) x ≡ false) → NoneBefore x xs
none_before x [] h = tt
none_before x (y ∷ ys) h = (h 0 (omega arith), none_before x ys (λ k p. h (suc k) (omega (arith, p))))

go_up : (xs : List Row) → ((i j : ℕ) (d : Row) → i ≤ j → j < length xs → less (get_or xs j d) (get_or xs i d) ≡ false) → GoUp xs
go_up [] h = tt
go_up (x ∷ xs) h = (none_before x xs (λ k p. h 0 (suc k) x (omega arith) (omega (arith, p))), go_up xs (λ i j d p q. h (suc i) (suc j) d (omega (arith, p)) (omega (arith, q))))

none_with : (x y : Row) (rs : List Row) → less y x ≡ false → NoneBefore x rs → NoneBefore x (with_row y rs)
none_with x y [] p h = (p, tt)
none_with x y (r ∷ rs) p h = by (less r y) (none_with x y rs p h.1)
  where
    by : (b : Bool) → NoneBefore x (with_row y rs) → NoneBefore x (cond b (r ∷ with_row y rs) (y ∷ r ∷ rs))
    by true all = (h.0, all)
    by false all = (p, h)

none_lower : (x y : Row) (rs : List Row) → less y x ≡ false → NoneBefore y rs → NoneBefore x rs
none_lower x y [] p h = tt
none_lower x y (r ∷ rs) p h = (rows_ranked.chain r y x h.0 p, none_lower x y rs p h.1)

with_up : (x : Row) (rs : List Row) → GoUp rs → GoUp (with_row x rs)
with_up x [] h = (tt, tt)
with_up x (r ∷ rs) h = by (less r x) refl (with_up x rs h.1)
  where
    by : (b : Bool) → less r x ≡ b → GoUp (with_row x rs) → GoUp (cond b (r ∷ with_row x rs) (x ∷ r ∷ rs))
    by true e up = (none_with r x rs (rows_ranked.one_way r x e) h.0, up)
    by false e up = ((e, none_lower x r rs e h.0), h)

sorted_up : (xs : List Row) → GoUp (sorted_rows xs)
sorted_up [] = tt
sorted_up (x ∷ xs) = with_up x (sorted_rows xs) (sorted_up xs)

-- ---- rows that are the same ones

abbrev pub one_if : Row → Row → ℕ
one_if x y = cond (same_row x y) 1 0

-- how often a row stands among others
abbrev pub count_of : Row → List Row → ℕ
count_of x = sum_by (one_if x)

pub counted_once : (x : Row) → one_if x x ≡ 1
counted_once x = ap (λ b. cond b 1 0) (row_itself x)

-- a row that stands among others isn't before the one that none of them is before
stands_behind : (x y : Row) (rs : List Row) → NoneBefore y rs → 0 < count_of x rs → less x y ≡ false
stands_behind x y [] h p = let none : count_of x [] ≡ 0 = refl in absurd (omega (arith, none, p))
stands_behind x y (r ∷ rs) h p = by (same_row x r) refl (stands_behind x y rs h.1)
  where
    by : (b : Bool) → same_row x r ≡ b → (0 < count_of x rs → less x y ≡ false) → less x y ≡ false
    by true e more = ap (λ z. less z y) (same_row_is x r e) ∙ h.0
    by false e more =
        let none : one_if x r ≡ 0 = ap (λ b. cond b 1 0) e in
        more (omega (arith, p, sum_by-cons (one_if x) r rs, none))

-- Rows that go up are those that go up and stand as often.
one_order : (xs ys : List Row) → GoUp xs → GoUp ys → ((r : Row) → count_of r xs ≡ count_of r ys) → xs ≡ ys
one_order [] [] p q h = refl
one_order [] (y ∷ ys) p q h = let none : count_of y [] ≡ 0 = refl in absurd (omega (arith, none, h y, sum_by-cons (one_if y) y ys, counted_once y))
one_order (x ∷ xs) [] p q h = let none : count_of x [] ≡ 0 = refl in absurd (omega (arith, none, h x, sum_by-cons (one_if x) x xs, counted_once x))
one_order (x ∷ xs) (y ∷ ys) p q h = by (same_row x y) (same_row y x) refl refl (one_order xs ys p.1 q.1)
  where
    tails : x ≡ y → (r : Row) → count_of r xs ≡ count_of r ys
    tails e r =
        let same : one_if r x ≡ one_if r y = ap (one_if r) e in
        omega (arith, h r, sum_by-cons (one_if r) x xs, sum_by-cons (one_if r) y ys, same)

    front : same_row x y ≡ true → (((r : Row) → count_of r xs ≡ count_of r ys) → xs ≡ ys) → x ∷ xs ≡ y ∷ ys
    front e more = let one = same_row_is x y e in let rest = more (tails one) in λ i. one i ∷ rest i

    by : (b c : Bool) → same_row x y ≡ b → same_row y x ≡ c → (((r : Row) → count_of r xs ≡ count_of r ys) → xs ≡ ys) → x ∷ xs ≡ y ∷ ys
    by true c e f more = front e more
    by false true e f more = front (ap (λ z. same_row z y) (sym (same_row_is y x f)) ∙ row_itself y) more
    by false false e f more =
        let apart : one_if x y ≡ 0 = ap (λ b. cond b 1 0) e in
        let other : one_if y x ≡ 0 = ap (λ b. cond b 1 0) f in
        let ahead = stands_behind x y ys q.0 (omega (arith, h x, sum_by-cons (one_if x) x xs, sum_by-cons (one_if x) y ys, counted_once x, apart)) in
        let behind = stands_behind y x xs p.0 (omega (arith, h y, sum_by-cons (one_if y) x xs, sum_by-cons (one_if y) y ys, counted_once y, other)) in
        front (level x y ahead behind) more

-- Rows in order, which are these in another order, are the sorted ones.
pub sorted_is : (xs ys : List Row) → IsPermutation xs ys → IsSortedBy (λ x y. is_lt (row_cmp x y)) ys → ys ≡ sorted_rows xs
sorted_is xs ys p up =
    one_order ys (sorted_rows xs) (go_up ys (sorted_far less rows_ranked ys up)) (sorted_up xs)
    (λ r. sum_by-IsPermutation (one_if r) xs ys p ∙ sym (sum_by-IsPermutation (one_if r) xs (sorted_rows xs) (sorted_permuted xs)))

-- Rows that are others in another order are the same once they are sorted.
pub one_sorting : (xs ys : List Row) → IsPermutation xs ys → sorted_rows xs ≡ sorted_rows ys
one_sorting xs ys p = one_order (sorted_rows xs) (sorted_rows ys) (sorted_up xs) (sorted_up ys) counts
  where
    counts : (r : Row) → count_of r (sorted_rows xs) ≡ count_of r (sorted_rows ys)
    counts r =
        let a = sum_by-IsPermutation (one_if r) xs (sorted_rows xs) (sorted_permuted xs) in
        let b = sum_by-IsPermutation (one_if r) ys (sorted_rows ys) (sorted_permuted ys) in
        a ∙ sym (sum_by-IsPermutation (one_if r) xs ys p) ∙ sym b
