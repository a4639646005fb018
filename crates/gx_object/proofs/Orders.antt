-- The order as it is tested is the canonical one.
use Rattle.std.proofs.Common.{◌≡◌, ℕ, true, not, List, [], ◌∷◌, ◌++◌, map, refl, sym, ap, subst, ◌∙◌, arith, Ordering, inl, inr}
use Rattle.std.specs.Prelude.{◌&&◌, nat_eq}
use Rattle.std.specs.List.{list_all, list_any, starts_with}
use Rattle.std.specs.Ordering.{is_lt, nat_cmp, ordering_then}
use Rattle.std.specs.declared.cmp.Ordering.TheVariants.{Less, Equal, Greater}
use Rattle.std.specs.Cmp.Lexicographic.{slice_cmp, bytes_decides}
use Rattle.std.specs.FinMap.Entries.{is_sorted, below_all}
use Rattle.std.proofs.lemmas.List.{append-nil}
use Rattle.std.proofs.lemmas.Cmp.{nat_list_cmp_total, tied_itself}
use Rattle.std.proofs.lemmas.Bool.{false≢true, and_from, and_parts, or_cases, or_left, or_right, false_from_ne_true, not-true, not_from_false, both_ways}
use Rattle.std.proofs.lemmas.Bool.Decides.{nat_tests, same_from_decides}
use Rattle.gx_model.specs.declared.objects.Mode.{Mode}
use Rattle.gx_model.specs.declared.objects.Mode.TheVariants.{File, Exec, Link, Gitlink, Dir}
use Rattle.gx_model.specs.Texts.{Bytes, same_bytes}
use Rattle.gx_model.specs.Texts.Paths.{is_component}
use Rattle.gx_model.specs.Objects.{Entry, are_different, entry_key, is_canonical, is_dir}
use Rattle.gx_object.specs.Entries.{mark_of}
use Rattle.gx_object.specs.Order.{are_ordered, is_repeated, leads, meets, precedes}

abbrev order : Bytes → Bytes → Ordering
order = slice_cmp nat_cmp

abbrev Less_ : Bytes → Bytes → Type 0
Less_ x y = order x y ≡ Less

abbrev with_slash : Bytes → Bytes
with_slash c = c ++ 47 ∷ []

abbrev keys : List Entry → List (Bytes × Bytes)
keys es = map (λ e. (entry_key e, e.component)) es

abbrev components : List Entry → List Bytes
components es = map (λ e. e.component) es

pub less : (o : Ordering) → is_lt o ≡ true → o ≡ Less
less Less h = refl
less Equal h = absurd (false≢true h)
less Greater h = absurd (false≢true h)

not_itself : (x : Bytes) → Less_ x x → ⊥
not_itself x h = cc (sym h ∙ tied_itself nat_list_cmp_total x)

-- ---- between a file and a directory of one component

heads : (a b : ℕ) (o p : Ordering) → ordering_then (nat_cmp a b) o ≡ Less → ordering_then (nat_cmp b a) p ≡ Less
    → (nat_eq a b ≡ true) × (o ≡ Less) × (p ≡ Less)
heads a b o p h g = grind (arith, nat_tests)

file_between : (c m : Bytes) → Less_ c m → Less_ m (with_slash c) → starts_with nat_eq m c ≡ true
file_between [] m h g = refl
file_between (a ∷ c) [] h g = cc
file_between (a ∷ c) (b ∷ m) h g =
    let p = heads a b (order c m) (order m (with_slash c)) h g in
    and_from _ _ p.0 (file_between c m p.1 p.2)

slash_first : (a : ℕ) (c : Bytes) → Less_ (a ∷ c) (47 ∷ []) → Less_ (47 ∷ []) (a ∷ with_slash c) → ⊥
slash_first a [] h g = let p = heads a 47 _ _ h g in cc
slash_first a (b ∷ c) h g = let p = heads a 47 _ _ h g in cc

dir_between : (c m : Bytes) → Less_ c (with_slash m) → Less_ (with_slash m) (with_slash c) → starts_with nat_eq m c ≡ true
dir_between [] m h g = refl
dir_between (a ∷ c) [] h g = absurd (slash_first a c h g)
dir_between (a ∷ c) (b ∷ m) h g =
    let p = heads a b (order c (with_slash m)) (order (with_slash m) (with_slash c)) h g in
    and_from _ _ p.0 (dir_between c m p.1 p.2)

entry_between : (c : Bytes) (f : Entry) → Less_ c (entry_key f) → Less_ (entry_key f) (with_slash c) → starts_with nat_eq f.component c ≡ true
entry_between c f h g = by f.mode f.component h g
  where
    by : (m : Mode) (d : Bytes) → Less_ c (entry_key (record { mode = m; component = d; name = [] })) → Less_ (entry_key (record { mode = m; component = d; name = [] })) (with_slash c)
        → starts_with nat_eq d c ≡ true
    by File d h g = file_between c d h g
    by Exec d h g = file_between c d h g
    by Link d h g = file_between c d h g
    by Gitlink d h g = file_between c d h g
    by Dir d h g = dir_between c d h g

-- ---- an entry that follows a file of its component is a directory, and nothing follows a directory of its own

slash_later : (c : Bytes) → Less_ (with_slash c) c → ⊥
slash_later [] h = cc
slash_later (a ∷ c) h = slash_later c (rest (nat_cmp a a) (order (with_slash c) c) (tied a) h)
  where
    rest : (o p : Ordering) → o ≡ Equal → ordering_then o p ≡ Less → p ≡ Less
    rest o p e h = rw e at h

    tied : (a : ℕ) → nat_cmp a a ≡ Equal
    tied a = grind (arith, nat_tests)

after_file : (c : Bytes) (f : Entry) → c ≡ f.component → Less_ c (entry_key f) → entry_key f ≡ with_slash c
after_file c f e h = by f.mode f.component e h
  where
    by : (m : Mode) (d : Bytes) → c ≡ d → Less_ c (entry_key (record { mode = m; component = d; name = [] })) → entry_key (record { mode = m; component = d; name = [] }) ≡ with_slash c
    by File d e h = absurd (not_itself c (subst (Less_ c) (sym e) h))
    by Exec d e h = absurd (not_itself c (subst (Less_ c) (sym e) h))
    by Link d e h = absurd (not_itself c (subst (Less_ c) (sym e) h))
    by Gitlink d e h = absurd (not_itself c (subst (Less_ c) (sym e) h))
    by Dir d e h = ap with_slash (sym e)

after_dir : (c : Bytes) (f : Entry) → c ≡ f.component → Less_ (with_slash c) (entry_key f) → ⊥
after_dir c f e h = by f.mode f.component e h
  where
    by : (m : Mode) (d : Bytes) → c ≡ d → Less_ (with_slash c) (entry_key (record { mode = m; component = d; name = [] })) → ⊥
    by File d e h = slash_later c (subst (Less_ (with_slash c)) (sym e) h)
    by Exec d e h = slash_later c (subst (Less_ (with_slash c)) (sym e) h)
    by Link d e h = slash_later c (subst (Less_ (with_slash c)) (sym e) h)
    by Gitlink d e h = slash_later c (subst (Less_ (with_slash c)) (sym e) h)
    by Dir d e h = not_itself (with_slash c) (subst (λ x. Less_ (with_slash c) (with_slash x)) (sym e) h)

-- ---- equal components are met

-- what stands before all of these stands before the directory of a component that one of them has
before_slash : (k c : Bytes) (es : List Entry) → below_all order k (keys es) ≡ true → below_all order c (keys es) ≡ true → list_any (same_bytes c) (components es) ≡ true
    → Less_ k (with_slash c)
before_slash k c [] h g s = absurd (false≢true s)
before_slash k c (f ∷ fs) h g s =
    let p = and_parts _ _ h in
    let q = and_parts _ _ g in
    elim (or_cases (same_bytes c f.component) _ s) [
      | inl here ↦ subst (Less_ k) (after_file c f ((bytes_decides c f.component).0 here) (less _ q.0)) (less _ p.0)
      | inr later ↦ before_slash k c fs p.1 q.1 later
    ]

starts_itself : (c : Bytes) → starts_with nat_eq c c ≡ true
starts_itself [] = refl
starts_itself (a ∷ c) = and_from _ _ (grind (arith, nat_tests)) (starts_itself c)

meets_all : (c : Bytes) (es : List Entry) → below_all order c (keys es) ≡ true → is_sorted order (keys es) ≡ true → list_any (same_bytes c) (components es) ≡ true → meets c es ≡ true
meets_all c [] h g s = absurd (false≢true s)
meets_all c (f ∷ fs) h g s =
    let p = and_parts _ _ h in
    let q = and_parts _ _ g in
    elim (or_cases (same_bytes c f.component) _ s) [
      | inl here ↦
          let e = (bytes_decides c f.component).0 here in
          and_from _ _ (subst (λ d. starts_with nat_eq d c ≡ true) e (starts_itself c)) (or_left _ _ ((bytes_decides f.component c).1 (sym e)))
      | inr later ↦
          and_from _ _ (entry_between c f (less _ p.0) (before_slash (entry_key f) c fs q.0 p.1 later)) (or_right _ _ (meets_all c fs p.1 q.1 later))
    ]

meets_some : (c : Bytes) (es : List Entry) → meets c es ≡ true → list_any (same_bytes c) (components es) ≡ true
meets_some c [] h = absurd (false≢true h)
meets_some c (f ∷ fs) h =
    elim (or_cases (same_bytes f.component c) _ (and_parts _ _ h).1) [
      | inl here ↦ or_left _ _ ((bytes_decides c f.component).1 (sym ((bytes_decides f.component c).0 here)))
      | inr later ↦ or_right _ _ (meets_some c fs later)
    ]

none_after_dir : (c : Bytes) (es : List Entry) → below_all order (with_slash c) (keys es) ≡ true → list_any (same_bytes c) (components es) ≡ true → ⊥
none_after_dir c [] h s = false≢true s
none_after_dir c (f ∷ fs) h s =
    let p = and_parts _ _ h in
    elim (or_cases (same_bytes c f.component) _ s) [
      | inl here ↦ after_dir c f ((bytes_decides c f.component).0 here) (less _ p.0)
      | inr later ↦ none_after_dir c fs p.1 later
    ]

repeated_all : (e : Entry) (es : List Entry) → below_all order (entry_key e) (keys es) ≡ true → is_sorted order (keys es) ≡ true → list_any (same_bytes e.component) (components es) ≡ true
    → is_repeated e es ≡ true
repeated_all e es h g s = by e.mode h
  where
    by : (m : Mode) → below_all order (entry_key (record { mode = m; component = e.component; name = [] })) (keys es) ≡ true → (not (is_dir m) && meets e.component es) ≡ true
    by File h = meets_all e.component es h g s
    by Exec h = meets_all e.component es h g s
    by Link h = meets_all e.component es h g s
    by Gitlink h = meets_all e.component es h g s
    by Dir h = absurd (none_after_dir e.component es h s)

-- ---- the whole order

below_rest : (k l : Bytes) (es : List (Bytes × Bytes)) → Less_ k l → below_all order l es ≡ true → below_all order k es ≡ true
below_rest k l [] h g = refl
below_rest k l (e ∷ es) h g =
    let p = and_parts _ _ g in
    and_from _ _ (ap is_lt (nat_list_cmp_total.trans k l e.0 h (less _ p.0))) (below_rest k l es h p.1)

below_next : (e : Entry) (es : List Entry) → precedes e es ≡ true → is_sorted order (keys es) ≡ true → below_all order (entry_key e) (keys es) ≡ true
below_next e [] h g = refl
below_next e (f ∷ fs) h g = and_from _ _ h (below_rest (entry_key e) (entry_key f) (keys fs) (less _ h) (and_parts _ _ g).0)

next_below : (e : Entry) (es : List Entry) → below_all order (entry_key e) (keys es) ≡ true → precedes e es ≡ true
next_below e [] h = refl
next_below e (f ∷ fs) h = (and_parts _ _ h).0

pub record IsCanonicalList (es : List Entry) : Type 0 where
  pub components : list_all (λ e. is_component e.component) es ≡ true
  pub sorted : is_sorted order (keys es) ≡ true
  pub different : are_different (map (λ e. e.component) es) ≡ true

pub canonical_parts : (es : List Entry) → is_canonical es ≡ true → IsCanonicalList es
canonical_parts es h =
    let p = and_parts _ (are_different (map (λ e. e.component) es)) h in
    let q = and_parts (list_all (λ (e : Entry). is_component e.component) es) _ p.0 in
    record { components = q.0; sorted = q.1; different = p.1 }

canonical_from : (es : List Entry) → IsCanonicalList es → is_canonical es ≡ true
canonical_from es h = and_from _ _ (and_from _ _ h.components h.sorted) h.different

ordered_canonical : (es : List Entry) → are_ordered es ≡ true → IsCanonicalList es
unfolding are_ordered
ordered_canonical [] h = record { components = refl; sorted = refl; different = refl }
ordered_canonical (e ∷ es) h =
    let p = and_parts (leads e es) _ h in
    let q = and_parts (is_component e.component && precedes e es) _ p.0 in
    let r = and_parts (is_component e.component) _ q.0 in
    let rest = ordered_canonical es p.1 in
    let below = below_next e es r.1 rest.sorted in
    let alone = false_from_ne_true _ (λ s. both_ways (is_repeated e es) (not-true _ q.1) (repeated_all e es below rest.sorted s)) in
    record {
      components = and_from _ _ r.0 rest.components;
      sorted = and_from _ _ below rest.sorted;
      different = and_from _ _ (not_from_false _ alone) rest.different;
    }

canonical_ordered : (es : List Entry) → IsCanonicalList es → are_ordered es ≡ true
unfolding are_ordered
canonical_ordered [] h = refl
canonical_ordered (e ∷ es) h =
    let c = and_parts (is_component e.component) _ h.components in
    let s = and_parts (below_all order (entry_key e) (keys es)) _ h.sorted in
    let d = and_parts (not (list_any (same_bytes e.component) (components es))) _ h.different in
    let alone = false_from_ne_true _ (λ r. both_ways _ (not-true _ d.0) (meets_some e.component es (and_parts (not (is_dir e.mode)) _ r).1)) in
    and_from _ _ (and_from _ _ (and_from _ _ c.0 (next_below e es s.0)) (not_from_false (is_repeated e es) alone)) (canonical_ordered es (record { components = c.1; sorted = s.1; different = d.1 }))

pub ordered_is : (es : List Entry) → are_ordered es ≡ is_canonical es
ordered_is es =
    same_from_decides (are_ordered es) (is_canonical es) (ordered_canonical es, canonical_ordered es) (canonical_parts es, canonical_from es)

-- ---- in the code's loops

-- a component with its mark
pub key_is : (e : Entry) → e.component ++ mark_of e.mode ≡ entry_key e
key_is e = by e.mode e.component
  where
    by : (m : Mode) (c : Bytes) → c ++ mark_of m ≡ entry_key (record { mode = m; component = c; name = [] })
    by File c = append-nil c
    by Exec c = append-nil c
    by Link c = append-nil c
    by Gitlink c = append-nil c
    by Dir c = refl
