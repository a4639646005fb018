-- The places of the parents of commits: what is known of a place stays where more places are appended.
use Rattle.std.proofs.Common.{◌≡◌, ◌≢◌, ℕ, zero, suc, ◌+◌, ◌-◌, ◌<◌, ◌≤◌, true, false, refl, sym, ap, subst, ◌∙◌, arith, List, [], ◌∷◌, ◌++◌, map, length, get_or, take, drop, set, replicate, Some, None, ◌⊎◌, inl, inr, slice_range, length-append}
use Rattle.std.specs.Prelude.{slice_index_or}
use Rattle.std.specs.List.{AllByRecursion, slice_get}
use Rattle.std.proofs.Math.Dec.{eqb}
use Rattle.std.proofs.lemmas.Bool.Decides.{eqb_tells}
use Rattle.std.proofs.lemmas.List.{drop-append-le, take-append-le, length-drop, length-map, map-append}
use Rattle.gx_model.specs.Histories.Values.{Commit, commit_value, list_of, parents_of}
use Rattle.gx_model.specs.Histories.{Records}
use Rattle.gx_model.specs.Histories.Marks.{IsAt}
use Rattle.gx_model.specs.Laws.RepositoryLaws.{values_of}
use Rattle.gx_rev.specs.Parents.{AreParentPlaces, IsCommitPlace, IsRowOf, StandAt, no_row}
use Rattle.gx_rev.specs.declared.parents.Row.{Row}

-- a list of one element has it everywhere, and that stands for the others
pub all_none : (n i : ℕ) → slice_index_or (replicate n no_row) i no_row ≡ no_row
all_none zero i = refl
all_none (suc n) zero = refl
all_none (suc n) (suc i) = all_none n i

pub empty_row : (r : Records) (places : List ℕ) (i : ℕ) → IsRowOf r places i no_row
empty_row r places i = record { order = omega arith; within = omega arith; parents = λ l. absurd (omega (arith, l)) }

-- a part of a list is the same where the list goes on
pub same_part : (xs ys : List ℕ) (a b : ℕ) → a ≤ b → b ≤ length xs → slice_range (xs ++ ys) a b ≡ slice_range xs a b
same_part xs ys a b l h =
    let left = length-drop a xs in
    ap (take (b - a)) (drop-append-le a xs ys (omega (arith, l, h))) ∙ take-append-le (b - a) (drop a xs) ys (omega (arith, left, l, h))

pub row_stays : (r : Records) (xs ys : List ℕ) (i : ℕ) (row : Row) → IsRowOf r xs i row → IsRowOf r (xs ++ ys) i row
row_stays r xs ys i row h = record {
  order = h.order;
  within = let e = length-append xs ys in let w = h.within in omega (arith, e, w);
  parents = λ l. subst (AreParentPlaces r i) (sym (same_part xs ys row.start row.end h.order h.within)) (h.parents l);
}

drop_front : (xs ys : List ℕ) → drop (length xs) (xs ++ ys) ≡ ys
drop_front [] ys = refl
drop_front (x ∷ xs) ys = drop_front xs ys

pub take_all : {X : Type 0} (xs : List X) (n : ℕ) → length xs ≤ n → take n xs ≡ xs
take_all [] zero l = refl
take_all [] (suc n) l = refl
take_all (x ∷ xs) zero l = absurd (omega (arith, l))
take_all (x ∷ xs) (suc n) l = ap (λ zs. x ∷ zs) (take_all xs n (omega (arith, l)))

pub last_part : (xs ys : List ℕ) → slice_range (xs ++ ys) (length xs) (length (xs ++ ys)) ≡ ys
last_part xs ys =
    let n = length (xs ++ ys) - length xs in
    let long = length-append xs ys in
    ap (take n) (drop_front xs ys) ∙ take_all ys n (omega (arith, long))

-- the element at a place, whatever would stand for it
pub index_same : {X : Type 0} (xs : List X) (i : ℕ) (x y : X) → i < length xs → slice_index_or xs i x ≡ slice_index_or xs i y
index_same [] i x y l = absurd (omega (arith, l))
index_same (z ∷ zs) zero x y l = refl
index_same (z ∷ zs) (suc i) x y l = index_same zs i x y (omega (arith, l))

pub set_here : {X : Type 0} (xs : List X) (i : ℕ) (x y : X) → i < length xs → slice_index_or (set xs i x) i y ≡ x
set_here [] i x y l = absurd (omega (arith, l))
set_here (z ∷ zs) zero x y l = refl
set_here (z ∷ zs) (suc i) x y l = set_here zs i x y (omega (arith, l))

pub set_there : {X : Type 0} (xs : List X) (i j : ℕ) (x y : X) → i ≢ j → slice_index_or (set xs i x) j y ≡ slice_index_or xs j y
set_there [] i j x y n = refl
set_there (z ∷ zs) zero zero x y n = absurd (n refl)
set_there (z ∷ zs) zero (suc j) x y n = refl
set_there (z ∷ zs) (suc i) zero x y n = refl
set_there (z ∷ zs) (suc i) (suc j) x y n = set_there zs i j x y (λ e. n (ap suc e))

-- one element more of a list's front
pub take_one : {X : Type 0} (xs : List X) (n : ℕ) (x : X) → slice_get xs n ≡ Some x → take (n + 1) xs ≡ take n xs ++ x ∷ []
take_one [] n x e = absurd cc
take_one (y ∷ ys) zero x e = let s : y ≡ x = cc in ap (λ z. z ∷ []) s
take_one (y ∷ ys) (suc n) x e = let s : suc n + 1 ≡ suc (n + 1) = omega arith in rw s (ap (λ zs. y ∷ zs) (take_one ys n x e))

pub no_more : {X : Type 0} (xs : List X) (n : ℕ) → slice_get xs n ≡ None → take (n + 1) xs ≡ take n xs
no_more [] zero e = refl
no_more [] (suc n) e = let s : suc n + 1 ≡ suc (n + 1) = omega arith in rw s refl
no_more (y ∷ ys) zero e = absurd cc
no_more (y ∷ ys) (suc n) e = let s : suc n + 1 ≡ suc (n + 1) = omega arith in rw s (ap (λ zs. y ∷ zs) (no_more ys n e))

-- one commit more stands at one place more
pub stand_more : (r : Records) (cs : List Commit) (n : ℕ) (c : Commit) (places : List ℕ) (place : ℕ) → slice_get cs n ≡ Some c → IsAt r place c → StandAt r (take n cs) places → StandAt r (take (n + 1) cs) (places ++ place ∷ [])
stand_more r cs n c places place e at h =
    let value = λ (made : Commit). Some (commit_value made) in
    map-append (slice_get (values_of r)) places (place ∷ []) ∙ ap (λ xs. xs ++ slice_get (values_of r) place ∷ []) h ∙ ap (λ o. map value (take n cs) ++ o ∷ []) at
    ∙ sym (map-append value (take n cs) (c ∷ [])) ∙ ap (map value) (sym (take_one cs n c e))

-- ---- a table

abbrev pub AreRows : Records → List Row → List ℕ → Type 0
AreRows r rows places = (place : ℕ) → IsRowOf r places place (slice_index_or rows place no_row)

pub rows_stay : (r : Records) (rows : List Row) (old added new : List ℕ) → new ≡ old ++ added → AreRows r rows old → AreRows r rows new
rows_stay r rows old added new e h place = subst (λ xs. IsRowOf r xs place (slice_index_or rows place no_row)) (sym e) (row_stays r old added place (slice_index_or rows place no_row) (h place))

-- with the parents of the commit at a place at its end
pub row_learned : (r : Records) (old added new : List ℕ) (place : ℕ) (c : Commit) (row : Row) → new ≡ old ++ added → IsAt r place c → StandAt r (list_of (parents_of c)) added → row.start ≡ length old → row.end ≡ length new → (slice_range new row.start row.end ≡ added) × IsRowOf r new place row
row_learned r old added new place c row e at h s t =
    let long = length-append old added in
    let n : length new ≡ length (old ++ added) = ap length e in
    let part : slice_range new row.start row.end ≡ added = ap (λ xs. slice_range xs row.start row.end) e ∙ ap (λ a. slice_range (old ++ added) a row.end) s ∙ ap (slice_range (old ++ added) (length old)) (t ∙ n) ∙ last_part old added in (
      part,
      record {
        order = omega (arith, s, t, n, long);
        within = omega (arith, t);
        parents = λ l made m.
            let same : made ≡ c = (let o : Some (commit_value made) ≡ Some (commit_value c) = sym m ∙ at in cc o) in
            subst (StandAt r (list_of (parents_of made))) (sym part) (subst (λ d. StandAt r (list_of (parents_of d)) added) (sym same) h);
      },
    )

pub learned : (r : Records) (rows : List Row) (old added new : List ℕ) (place : ℕ) (c : Commit) (row : Row) → place < length rows → new ≡ old ++ added → IsAt r place c → StandAt r (list_of (parents_of c)) added → row.start ≡ length old → row.end ≡ length new → AreRows r rows old → AreRows r (set rows place row) new
learned r rows old added new place c row l e at h s t rest other = by (eqb_tells place other)
  where
    by : ((eqb place other ≡ true) × (place ≡ other)) ⊎ ((eqb place other ≡ false) × (place ≢ other)) → IsRowOf r new other (slice_index_or (set rows place row) other no_row)
    by (inl q) = subst (λ o. IsRowOf r new o (slice_index_or (set rows place row) o no_row)) q.1 (subst (IsRowOf r new place) (sym (set_here rows place row no_row l)) (row_learned r old added new place c row e at h s t).1)
    by (inr n) = subst (IsRowOf r new other) (sym (set_there rows place other row no_row n.1)) (rows_stay r rows old added new e rest other)

pub known_there : (r : Records) (rows : List Row) (old added new : List ℕ) (place : ℕ) (c : Commit) (row : Row) → place < length rows → new ≡ old ++ added → IsAt r place c → StandAt r (list_of (parents_of c)) added → row.start ≡ length old → row.end ≡ length new
    → AreParentPlaces r place (slice_range new (slice_index_or (set rows place row) place no_row).start (slice_index_or (set rows place row) place no_row).end)
known_there r rows old added new place c row l e at h s t made m =
    let same : made ≡ c = (let o : Some (commit_value made) ≡ Some (commit_value c) = sym m ∙ at in cc o) in
    let stand = subst (λ d. StandAt r (list_of (parents_of d)) added) (sym same) h in
    subst (λ (w : Row). StandAt r (list_of (parents_of made)) (slice_range new w.start w.end)) (sym (set_here rows place row no_row l)) (subst (StandAt r (list_of (parents_of made))) (sym (row_learned r old added new place c row e at h s t).0) stand)

-- where all rows are empty, nothing is known
pub nothing_known : (r : Records) (rows : List Row) (places : List ℕ) (n : ℕ) → rows ≡ replicate n no_row → AreRows r rows places
nothing_known r rows places n e place = subst (λ rs. IsRowOf r places place (slice_index_or rs place no_row)) (sym e) (subst (IsRowOf r places place) (sym (all_none n place)) (empty_row r places place))

pub past_rows : (rows : List Row) (places : List ℕ) (i : ℕ) → length rows ≤ i → slice_range places (slice_index_or rows i no_row).start (slice_index_or rows i no_row).end ≡ []
past_rows [] places i l = refl
past_rows (x ∷ xs) places zero l = absurd (omega (arith, l))
past_rows (x ∷ xs) places (suc i) l = past_rows xs places i (omega (arith, l))

-- ---- places of commits

pub commits_stand : (r : Records) (cs : List Commit) (places : List ℕ) → StandAt r cs places → AllByRecursion (IsCommitPlace r) places
commits_stand r [] [] h = tt
commits_stand r [] (p ∷ ps) h = absurd cc
commits_stand r (c ∷ cs) [] h = absurd cc
commits_stand r (c ∷ cs) (p ∷ ps) h =
    let first : slice_get (values_of r) p ≡ Some (commit_value c) = cc in
    let rest : StandAt r cs ps = cc in
    ((c, first), commits_stand r cs ps rest)

pub as_many_places : (r : Records) (cs : List Commit) (places : List ℕ) → StandAt r cs places → length places ≡ length cs
as_many_places r cs places h =
    sym (length-map places (slice_get (values_of r))) ∙ ap length h ∙ length-map cs (λ (made : Commit). Some (commit_value made))

pub stands_there : (r : Records) (cs : List Commit) (places : List ℕ) (i p : ℕ) → StandAt r cs places → slice_get places i ≡ Some p → (c : Commit) × (slice_get cs i ≡ Some c) × IsAt r p c
stands_there r [] [] i p h e = absurd cc
stands_there r [] (q ∷ ps) i p h e = absurd cc
stands_there r (c ∷ cs) [] i p h e = absurd cc
stands_there r (c ∷ cs) (q ∷ ps) zero p h e =
    let first : slice_get (values_of r) q ≡ Some (commit_value c) = cc in
    let same : q ≡ p = cc in
    (c, refl, subst (λ n. IsAt r n c) same first)
stands_there r (c ∷ cs) (q ∷ ps) (suc i) p h e =
    let rest : StandAt r cs ps = cc in
    stands_there r cs ps i p rest e

pub got : (places : List ℕ) (i : ℕ) → i < length places → slice_get places i ≡ Some (get_or places i 0)
got [] i l = absurd (omega (arith, l))
got (y ∷ ys) zero l = refl
got (y ∷ ys) (suc i) l = got ys i (omega (arith, l))

pub is_there : (r : Records) (places : List ℕ) (i p : ℕ) → AllByRecursion (IsCommitPlace r) places → slice_get places i ≡ Some p → IsCommitPlace r p
is_there r [] i p h e = absurd cc
is_there r (q ∷ ps) zero p h e = let same : q ≡ p = cc in subst (IsCommitPlace r) same h.0
is_there r (q ∷ ps) (suc i) p h e = is_there r ps i p h.1 e
