-- The lines of a commit's parents: what is read stands there, the lines of names are read as them, and each has its place.
use Rattle.std.proofs.Common.{◌≡◌, ℕ, zero, suc, ◌+◌, ◌*◌, ◌<◌, ◌≤◌, true, List, [], ◌∷◌, ◌++◌, length, take, drop, Option, Some, None, refl, sym, ap, ◌∙◌, arith, append_assoc}
use Rattle.std.specs.Prelude.{codes, slice_get}
use Rattle.std.specs.List.{list_all}
use Rattle.std.proofs.lemmas.Bool.{and_from, and_parts}
use Rattle.std.proofs.lemmas.List.{append-nil, length-append, take_at}
use Rattle.std.proofs.Math.Seq.{drop-append-add}
use Rattle.std.proofs.lemmas.List.Concat.{flat_map-cons}
use Rattle.gx_model.specs.Texts.{Bytes}
use Rattle.gx_model.specs.Objects.{hex, is_name, line}
use Rattle.gx_model.specs.Objects.Naming.{lower_name_in}
use Rattle.gx_object.specs.Lines.{field, name_field, stripped}
use Rattle.gx_object.specs.Commits.{AreParents, parent_lines, parents_of, parents_within, with_first}
use Rattle.gx_model.proofs.ObjectTexts.NameDigits.{name_again, name_long}
use Rattle.gx_object.proofs.Fields.{name_spelled, name_field_again}

abbrev parent : Bytes → Bytes
parent name = line (codes "parent") (hex name)

abbrev at_parent : Bytes → Option (Bytes × Bytes)
at_parent = name_field (codes "parent")

abbrev no_parents : Bytes → List Bytes × Bytes
no_parents bytes = ([], bytes)

abbrev followed : (Bytes → List Bytes × Bytes) → Bytes → Option (Bytes × Bytes) → List Bytes × Bytes
followed f bytes None = ([], bytes)
followed f bytes (Some a) = with_first a.0 (f a.1)

-- ---- as many steps as there are bytes

pub after_shorter : (bytes : Bytes) (p : Bytes × Bytes) → at_parent bytes ≡ Some p → length p.1 < length bytes
after_shorter bytes p e =
    let h = name_spelled (codes "parent") bytes p e in
    let l = length-append (parent p.0) p.1 in
    let k = length-append (codes "parent" ++ 32 ∷ hex p.0) (10 ∷ []) in
    let whole = ap length h.parts in
    omega arith

enough : (n m : ℕ) (bytes : Bytes) → length bytes ≤ n → length bytes ≤ m → parents_within n bytes ≡ parents_within m bytes
unfolding parents_within
enough zero zero bytes p q = refl
enough zero (suc m) bytes p q = step (at_parent bytes) refl
  where
    step : (o : Option (Bytes × Bytes)) → at_parent bytes ≡ o → no_parents bytes ≡ followed (parents_within m) bytes o
    step None e = refl
    step (Some a) e = let s = after_shorter bytes a e in absurd (omega arith)
enough (suc n) zero bytes p q = step (at_parent bytes) refl
  where
    step : (o : Option (Bytes × Bytes)) → at_parent bytes ≡ o → followed (parents_within n) bytes o ≡ no_parents bytes
    step None e = refl
    step (Some a) e = let s = after_shorter bytes a e in absurd (omega arith)
enough (suc n) (suc m) bytes p q = step (at_parent bytes) refl (λ rest h k. enough n m rest h k)
  where
    step : (o : Option (Bytes × Bytes)) → at_parent bytes ≡ o → ((rest : Bytes) → length rest ≤ n → length rest ≤ m → parents_within n rest ≡ parents_within m rest)
        → followed (parents_within n) bytes o ≡ followed (parents_within m) bytes o
    step None e again = refl
    step (Some a) e again = let s = after_shorter bytes a e in ap (with_first a.0) (again a.1 (omega arith) (omega arith))

pub parents_end : (bytes : Bytes) → at_parent bytes ≡ None → parents_of bytes ≡ ([], bytes)
unfolding parents_within
parents_end [] e = refl
parents_end (b ∷ bytes) e = ap (followed (parents_within (length bytes)) (b ∷ bytes)) e

pub parents_step : (bytes : Bytes) (p : Bytes × Bytes) → at_parent bytes ≡ Some p → parents_of bytes ≡ with_first p.0 (parents_of p.1)
unfolding parents_within
parents_step [] p e = let s = after_shorter [] p e in absurd (omega arith)
parents_step (b ∷ bytes) p e =
    let s = after_shorter (b ∷ bytes) p e in
    ap (followed (parents_within (length bytes)) (b ∷ bytes)) e
    ∙ ap (with_first p.0) (enough (length bytes) (length p.1) p.1 (omega arith) (omega arith))

-- ---- what is read stands there

pub record HasParents (bytes : Bytes) (p : List Bytes × Bytes) : Type 0 where
  pub parts : bytes ≡ parent_lines p.0 ++ p.1
  pub names : list_all is_name p.0 ≡ true

within_spelled : (n : ℕ) (bytes : Bytes) → HasParents bytes (parents_within n bytes)
unfolding parents_within
within_spelled zero bytes = record { parts = refl; names = refl }
within_spelled (suc n) bytes = step (at_parent bytes) refl (λ rest. within_spelled n rest)
  where
    step : (o : Option (Bytes × Bytes)) → at_parent bytes ≡ o → ((rest : Bytes) → HasParents rest (parents_within n rest))
        → HasParents bytes (followed (parents_within n) bytes o)
    step None e again = record { parts = refl; names = refl }
    step (Some a) e again =
        let h = name_spelled (codes "parent") bytes a e in
        let r = again a.1 in
        let ns = (parents_within n a.1).0 in
        record {
          parts = h.parts ∙ ap (λ x. parent a.0 ++ x) r.parts ∙ sym (append_assoc (parent a.0) (parent_lines ns) (parents_within n a.1).1) ∙ ap (λ x. x ++ (parents_within n a.1).1) (sym (flat_map-cons parent a.0 ns));
          names = and_from _ _ h.name r.names;
        }

pub parents_spelled : (bytes : Bytes) → HasParents bytes (parents_of bytes)
parents_spelled bytes = within_spelled (length bytes) bytes

-- ---- and the lines of names are read as them

pub parents_again : (names : List Bytes) (rest : Bytes) → list_all is_name names ≡ true → at_parent rest ≡ None → parents_of (parent_lines names ++ rest) ≡ (names, rest)
parents_again [] rest h e = parents_end rest e
parents_again (n ∷ names) rest h e =
    let p = and_parts (is_name n) _ h in
    let flat = ap (λ x. x ++ rest) (flat_map-cons parent n names) ∙ append_assoc (parent n) (parent_lines names) rest in
    ap parents_of flat
    ∙ parents_step (parent n ++ (parent_lines names ++ rest)) (n, parent_lines names ++ rest) (name_field_again (codes "parent") n (parent_lines names ++ rest) p.0)
    ∙ ap (with_first n) (parents_again names rest p.1 e)

nothing_there : at_parent [] ≡ None
unfolding name_field field stripped
nothing_there = refl

pub are_parents : (bytes : Bytes) (names : List Bytes) → bytes ≡ parent_lines names → list_all is_name names ≡ true → AreParents bytes × (parents_of bytes ≡ (names, []))
are_parents bytes names e h =
    let again : parents_of bytes ≡ (names, []) = ap parents_of (e ∙ sym (append-nil (parent_lines names))) ∙ parents_again names [] h nothing_there in
    (record { lines = e ∙ ap parent_lines (sym (ap (λ p. p.0) again)); names = ap (λ (p : List Bytes × Bytes). list_all is_name p.0) again ∙ h }, again)

-- ---- each line has its place

parent_long : (n : Bytes) → is_name n ≡ true → length (parent n) ≡ 48
parent_long n h =
    let digits = name_long n h in
    let a = length-append (codes "parent" ++ 32 ∷ hex n) (10 ∷ []) in
    omega arith

pub lines_long : (names : List Bytes) → list_all is_name names ≡ true → length (parent_lines names) ≡ length names * 48
lines_long [] h = refl
lines_long (n ∷ names) h =
    let p = and_parts (is_name n) _ h in
    let one = parent_long n p.0 in
    let rest = lines_long names p.1 in
    let both = ap length (flat_map-cons parent n names) ∙ length-append (parent n) (parent_lines names) in
    omega arith

pub none_at : (names : List Bytes) (i : ℕ) → length names ≤ i → slice_get names i ≡ None
none_at [] i h = refl
none_at (n ∷ names) zero h = absurd (omega arith)
none_at (n ∷ names) (suc i) h = none_at names i (omega arith)

-- the digits in a line
digits_in : (n rest : Bytes) → is_name n ≡ true → take 40 (drop 7 (take 48 (parent n ++ rest))) ≡ hex n
digits_in n rest h = ap (λ x. take 40 (drop 7 x)) (take_at (parent n) rest 48 (parent_long n h)) ∙ take_at (hex n) (10 ∷ []) 40 (name_long n h)

drop_past : (xs ys : Bytes) (n k : ℕ) → length xs ≡ n → drop (n + k) (xs ++ ys) ≡ drop k ys
drop_past xs ys n k e = ap (λ m. drop (m + k) (xs ++ ys)) (sym e) ∙ drop-append-add xs ys k

pub name_at : (names : List Bytes) (i : ℕ) → list_all is_name names ≡ true → i < length names
    → lower_name_in (take 40 (drop 7 (take 48 (drop (i * 48) (parent_lines names))))) ≡ slice_get names i
name_at [] i h lt = absurd (omega arith)
name_at (n ∷ names) zero h lt =
    let p = and_parts (is_name n) _ h in
    ap (λ x. lower_name_in (take 40 (drop 7 (take 48 x)))) (flat_map-cons parent n names) ∙ ap lower_name_in (digits_in n (parent_lines names) p.0) ∙ name_again n p.0
name_at (n ∷ names) (suc i) h lt =
    let p = and_parts (is_name n) _ h in
    let place : suc i * 48 ≡ 48 + i * 48 = omega arith in
    let past : drop (suc i * 48) (parent_lines (n ∷ names)) ≡ drop (i * 48) (parent_lines names) =
    (λ j. drop (place j) (flat_map-cons parent n names j)) ∙ drop_past (parent n) (parent_lines names) 48 (i * 48) (parent_long n p.0) in
    ap (λ x. lower_name_in (take 40 (drop 7 (take 48 x)))) past ∙ name_at names i p.1 (omega arith)
