-- Rows in the order of their names: those of records whose names differ are sorted, and sorted ones stay as they are.
use Rattle.std.proofs.Common.{◌≡◌, ℕ, ◌+◌, Bool, true, false, cond, refl, sym, ap, subst, ◌∙◌, List, [], ◌∷◌, length, map, None, Some, arith}
use Rattle.std.specs.Prelude.{T, ⊤, ◌||◌}
use Rattle.std.specs.List.{AllByRecursion, list_any}
use Rattle.std.specs.Ordering.{eq_by_cmp, is_eq, is_lt, nat_cmp, ordering_reverse, ordering_then}
use Rattle.std.specs.declared.cmp.Ordering.{Ordering}
use Rattle.std.specs.declared.cmp.Ordering.TheVariants.{Less, Equal, Greater}
use Rattle.std.specs.FinMap.Entries.{below_all, by_order, find, find-put, is_sorted, is_sorted-put, put}
use Rattle.std.specs.Cmp.Lexicographic.{nat_list_cmp_total}
use Rattle.std.proofs.lemmas.Map.Text.{is_eq-slice_cmp}
use Rattle.gx_model.specs.declared.store_versions.Version.TheVariants.{Two}
use Rattle.gx_model.specs.Texts.{Bytes, byte_cmp, same_bytes}
use Rattle.gx_model.specs.Histories.{AreDistinct, Record}
use Rattle.gx_model.specs.Stores.StoreText.{stored_record}
use Rattle.gx_model.proofs.Texts.PathTests.{first, second}
use Rattle.gx_growing.specs.GrowingText.{Row, placed, row_cmp, sorted_rows, with_row}

-- no row has the name of another
abbrev pub AreApart : List Row → Type 0
AreApart [] = ⊤
AreApart (x ∷ xs) = (find byte_cmp x.0 xs ≡ None) × AreApart xs

-- ---- one row

-- the order the other way round
turned : (x y : Bytes) → byte_cmp y x ≡ ordering_reverse (byte_cmp x y)
turned x y = nat_list_cmp_total.antisymm y x

-- a row with a new name takes its place
with_is_put : (x : Row) (rs : List Row) → find byte_cmp x.0 rs ≡ None → with_row x rs ≡ put byte_cmp x.0 x.1 rs
with_is_put x [] h = refl
with_is_put x (r ∷ rs) h = by (with_is_put x rs) (byte_cmp x.0 r.0) refl h
  where
    by : (find byte_cmp x.0 rs ≡ None → with_row x rs ≡ put byte_cmp x.0 x.1 rs) → (o : Ordering) → byte_cmp x.0 r.0 ≡ o → cond (is_eq o) (Some r.1) (find byte_cmp x.0 rs) ≡ None → with_row x (r ∷ rs) ≡ by_order o (x ∷ r ∷ rs) ((r.0, x.1) ∷ rs) (r ∷ put byte_cmp x.0 x.1 rs)
    by again Less e f =
        let back : byte_cmp r.0 x.0 ≡ Greater = turned x.0 r.0 ∙ ap ordering_reverse e in
        ap (λ o. cond (is_lt (ordering_then o (nat_cmp r.1 x.1))) (r ∷ with_row x rs) (x ∷ r ∷ rs)) back
    by again Equal e f = absurd (cc)
    by again Greater e f =
        let back : byte_cmp r.0 x.0 ≡ Less = turned x.0 r.0 ∙ ap ordering_reverse e in
        ap (λ o. cond (is_lt (ordering_then o (nat_cmp r.1 x.1))) (r ∷ with_row x rs) (x ∷ r ∷ rs)) back ∙ ap (λ z. r ∷ z) (again f)

-- ---- rows

-- sorted rows have the names and places that the rows have
sorted_find : (xs : List Row) → AreApart xs → (n : Bytes) → find byte_cmp n (sorted_rows xs) ≡ find byte_cmp n xs
sorted_find [] h n = refl
sorted_find (x ∷ xs) h n =
    ap (find byte_cmp n) (with_is_put x (sorted_rows xs) (sorted_find xs h.1 x.0 ∙ h.0))
    ∙ find-put byte_cmp nat_list_cmp_total n x.0 x.1 (sorted_rows xs)
    ∙ ap (λ o. cond (eq_by_cmp byte_cmp n x.0) (Some x.1) o) (sorted_find xs h.1 n)

-- rows whose names differ are sorted strictly
pub rows_sorted : (xs : List Row) → AreApart xs → T (is_sorted byte_cmp (sorted_rows xs))
rows_sorted [] h = tt
rows_sorted (x ∷ xs) h =
    subst (λ z. T (is_sorted byte_cmp z)) (sym (with_is_put x (sorted_rows xs) (sorted_find xs h.1 x.0 ∙ h.0)))
    (is_sorted-put byte_cmp nat_list_cmp_total x.0 x.1 (sorted_rows xs) (rows_sorted xs h.1))

less_is : (o : Ordering) → T (is_lt o) → o ≡ Less
less_is Less h = refl
less_is Equal h = absurd h
less_is Greater h = absurd h

front_row : (x : Row) (xs : List Row) → T (below_all byte_cmp x.0 xs) → with_row x xs ≡ x ∷ xs
front_row x [] h = refl
front_row x (r ∷ rs) h =
    let less = less_is (byte_cmp x.0 r.0) (first (is_lt (byte_cmp x.0 r.0)) (below_all byte_cmp x.0 rs) h) in
    ap (λ o. cond (is_lt (ordering_then o (nat_cmp r.1 x.1))) (r ∷ with_row x rs) (x ∷ r ∷ rs)) (turned x.0 r.0 ∙ ap ordering_reverse less)

-- rows that are sorted strictly stay as they are
pub sorted_again : (xs : List Row) → T (is_sorted byte_cmp xs) → sorted_rows xs ≡ xs
sorted_again [] h = refl
sorted_again (x ∷ xs) h =
    ap (with_row x) (sorted_again xs (second (below_all byte_cmp x.0 xs) (is_sorted byte_cmp xs) h))
    ∙ front_row x xs (first (below_all byte_cmp x.0 xs) (is_sorted byte_cmp xs) h)

-- ---- what sorting keeps

with_long : (x : Row) (xs : List Row) → length (with_row x xs) ≡ length xs + 1
with_long x [] = refl
with_long x (r ∷ rs) = by (with_long x rs) (is_lt (row_cmp r x))
  where
    by : length (with_row x rs) ≡ length rs + 1 → (b : Bool) → length (cond b (r ∷ with_row x rs) (x ∷ r ∷ rs)) ≡ length (r ∷ rs) + 1
    by l true = omega arith
    by l false = omega arith

-- sorted rows are as many
pub sorted_long : (xs : List Row) → length (sorted_rows xs) ≡ length xs
sorted_long [] = refl
sorted_long (x ∷ xs) = let a = with_long x (sorted_rows xs) in let b = sorted_long xs in omega arith

with_all : (P : Row → Type 0) (x : Row) (xs : List Row) → P x → AllByRecursion P xs → AllByRecursion P (with_row x xs)
with_all P x [] p h = (p, tt)
with_all P x (r ∷ rs) p h = by (with_all P x rs p h.1) (is_lt (row_cmp r x))
  where
    by : AllByRecursion P (with_row x rs) → (b : Bool) → AllByRecursion P (cond b (r ∷ with_row x rs) (x ∷ r ∷ rs))
    by all true = (h.0, all)
    by all false = (p, h)

-- what holds of all rows holds of them in order
pub sorted_all : (P : Row → Type 0) (xs : List Row) → AllByRecursion P xs → AllByRecursion P (sorted_rows xs)
sorted_all P [] h = tt
sorted_all P (x ∷ xs) h = with_all P x (sorted_rows xs) h.0 (sorted_all P xs h.1)

-- ---- rows of records

absent : (n : Bytes) (place : ℕ) (rs : List Record) → list_any (same_bytes n) (map (λ r. r.name) rs) ≡ false → find byte_cmp n (placed place rs) ≡ None
absent n place [] h = refl
absent n place (r ∷ rs) h = by (absent n (place + length (stored_record Two r)) rs) (same_bytes n r.name) refl h
  where
    by : (list_any (same_bytes n) (map (λ z. z.name) rs) ≡ false → find byte_cmp n (placed (place + length (stored_record Two r)) rs) ≡ None) → (b : Bool) → same_bytes n r.name ≡ b → (b || list_any (same_bytes n) (map (λ z. z.name) rs)) ≡ false → find byte_cmp n (placed place (r ∷ rs)) ≡ None
    by again true e f = absurd (cc)
    by again false e f =
        ap (λ b. cond b (Some place) (find byte_cmp n (placed (place + length (stored_record Two r)) rs))) (is_eq-slice_cmp n r.name ∙ e)
        ∙ again f

-- records whose names differ have rows whose names differ
pub placed_apart : (place : ℕ) (rs : List Record) → AreDistinct (map (λ r. r.name) rs) → AreApart (placed place rs)
placed_apart place [] h = tt
placed_apart place (r ∷ rs) h = (absent r.name (place + length (stored_record Two r)) rs h.0, placed_apart (place + length (stored_record Two r)) rs h.1)

pub placed_long : (place : ℕ) (rs : List Record) → length (placed place rs) ≡ length rs
placed_long place [] = refl
placed_long place (r ∷ rs) = let l = placed_long (place + length (stored_record Two r)) rs in omega arith
