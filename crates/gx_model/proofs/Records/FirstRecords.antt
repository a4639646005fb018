-- The first records of a sound repository are sound, and have the first values.
use Rattle.std.proofs.Common.{◌≡◌, true, false, refl, sym, ap, subst, ◌∙◌, List, [], ◌∷◌, ◌++◌, map, inl, inr, append_assoc, append-nil}
use Rattle.std.specs.Prelude.{◌||◌}
use Rattle.std.specs.List.{list_any, AllByRecursion}
use Rattle.std.proofs.lemmas.List.{map-append}
use Rattle.gx_model.specs.declared.objects.Kind.{Kind}
use Rattle.gx_model.specs.Texts.{Bytes, same_bytes}
use Rattle.gx_model.specs.Texts.Paths.{Path}
use Rattle.gx_model.specs.Histories.Values.{Value}
use Rattle.gx_model.specs.Objects.{Entry}
use Rattle.gx_model.specs.Histories.{Record, AreDistinct}
use Rattle.gx_model.specs.Records.Sound.{AnyByRecursion, IsLinkedAfter, HasPath, here, below, HasShortPaths, IsTarget, IsSound}
use Rattle.gx_model.specs.Records.HistoryOf.{Named, named_from, with_record, value_in, history_of}
use Rattle.gx_model.proofs.ObjectTexts.OneTree.{all_left}

some_left : {X : Type 0} (P : X → Type 0) (xs ys : List X) → AnyByRecursion P xs → AnyByRecursion P (xs ++ ys)
some_left P [] ys h = absurd h
some_left P (x ∷ xs) ys h = elim h [ inl p ↦ inl p | inr q ↦ inr (some_left P xs ys q) ]

distinct_left : (xs ys : List Bytes) → AreDistinct (xs ++ ys) → AreDistinct xs
distinct_left [] ys h = tt
distinct_left (x ∷ xs) ys h = (left x xs h.0, distinct_left xs ys h.1)
  where
    left : (x : Bytes) (zs : List Bytes) → list_any (same_bytes x) (zs ++ ys) ≡ false → list_any (same_bytes x) zs ≡ false
    left x [] k = refl
    left x (z ∷ zs) k = elim (same_bytes x z) as (λ b. (b || list_any (same_bytes x) (zs ++ ys)) ≡ false → (b || list_any (same_bytes x) zs) ≡ false) [ true ↦ λ j. j | false ↦ λ j. left x zs j ] k

linked_left : (before xs ys : List Record) → IsLinkedAfter before (xs ++ ys) → IsLinkedAfter before xs
linked_left before [] ys h = tt
linked_left before (x ∷ xs) ys h = (h.0, linked_left (before ++ x ∷ []) xs ys h.1)

-- a path below entries is one where there are more records
pub has_path_more : (xs ys : List Record) (es : List Entry) (p : Path) → HasPath xs es p → HasPath (xs ++ ys) es p
has_path_more xs ys es p (here e s m) = here e s m
has_path_more xs ys es p (below {p = q} e fs s m r h) = below e fs s m (some_left _ xs ys r) (has_path_more xs ys fs q h)

short_left : (xs ys zs : List Record) → AllByRecursion (HasShortPaths (xs ++ ys)) zs → AllByRecursion (HasShortPaths xs) zs
short_left xs ys [] h = tt
short_left xs ys (z ∷ zs) h = (λ es p k t q. h.0 es p k t (has_path_more xs ys es p q), short_left xs ys zs h.1)

named_from_append : (ks : Named) (xs ys : List Record) → named_from ks (xs ++ ys) ≡ named_from (named_from ks xs) ys
named_from_append ks [] ys = refl
named_from_append ks (x ∷ xs) ys = named_from_append (with_record ks x) xs ys

named_from_more : (ks : Named) (ys : List Record) → (more : Named) × (named_from ks ys ≡ ks ++ more)
named_from_more ks [] = ([], sym (append-nil ks))
named_from_more ks (y ∷ ys) =
    let r = named_from_more (with_record ks y) ys in
    ((y.name, value_in ks y.kind y.body) ∷ r.0, r.1 ∙ append_assoc ks ((y.name, value_in ks y.kind y.body) ∷ []) r.0)

module _ (name : Kind → Bytes → Bytes) where
  -- the first records of a sound repository are sound, where they hold what its refs name
  pub kept : (xs ys : List Record) (refs : List (Bytes × Bytes)) → IsSound name (record { records = xs ++ ys; refs = refs }) → AllByRecursion (λ x. IsTarget xs x.0 x.1) refs → IsSound name (record { records = xs; refs = refs })
  kept xs ys refs i h = record {
    named = all_left (λ x. x.name ≡ name x.kind x.body) xs ys i.named;
    distinct = distinct_left (map (λ x. x.name) xs) (map (λ x. x.name) ys) (subst AreDistinct (map-append (λ x. x.name) xs ys) i.distinct);
    linked = linked_left [] xs ys i.linked;
    paths = short_left xs ys xs (all_left (HasShortPaths (xs ++ ys)) xs ys i.paths);
    sorted = i.sorted;
    ref_names = i.ref_names;
    held = h;
  }

-- later records have later values
pub first_values : (xs ys : List Record) (refs : List (Bytes × Bytes)) → (more : List Value) × ((history_of (record { records = xs ++ ys; refs = refs })).values ≡ (history_of (record { records = xs; refs = refs })).values ++ more)
first_values xs ys refs =
    let r = named_from_more (named_from [] xs) ys in
    (map (λ k. k.1) r.0, ap (map (λ k. k.1)) (named_from_append [] xs ys ∙ r.1) ∙ map-append (λ k. k.1) (named_from [] xs) r.0)
