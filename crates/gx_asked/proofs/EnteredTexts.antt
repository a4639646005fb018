-- Texts that are entered among others.
use Rattle.std.proofs.Common.{◌≡◌, ℕ, Bool, true, false, List, [], ◌∷◌, refl, sym, ◌∙◌}
use Rattle.std.specs.Prelude.{◌||◌}
use Rattle.std.specs.declared.cmp.Ordering.{Ordering}
use Rattle.std.specs.declared.cmp.Ordering.TheVariants.{Less, Equal, Greater}
use Rattle.std.specs.declared.vec.Vec.{Vec}
use Rattle.std.specs.BTreeSet.{insert_key}
use Rattle.std.specs.List.{list_any}
use Rattle.std.specs.Ordering.{is_eq, match_ordering}
use Rattle.std.proofs.lemmas.Map.Text.{is_eq-slice_cmp}
use Rattle.gx_model.specs.Texts.{Bytes, byte_cmp, same_bytes}
use Rattle.gx_model.proofs.Texts.PathTests.{is_same, is_true}
use Rattle.gx_model.proofs.Texts.TextMaps.{same_text}
use Rattle.gx_asked.specs.Asking.{IsAmong, texts_of}
use Rattle.gx_asked.specs.Entering.{KeepsTexts}

left : (a b : Bool) → a ≡ true → (a || b) ≡ true
left true b e = refl
left false b e = absurd cc

right : (a b : Bool) → b ≡ true → (a || b) ≡ true
right true b e = refl
right false b e = e

either_more : (a b c : Bool) → (b ≡ true → c ≡ true) → (a || b) ≡ true → (a || c) ≡ true
either_more true b c more e = refl
either_more false b c more e = more e

itself : (x : Bytes) → same_bytes x x ≡ true
itself x = is_true _ (is_same x x refl)

module _ {A : Type 0} where
  abbrev by_bytes : Vec ℕ A → Vec ℕ A → Ordering
  by_bytes x y = byte_cmp x.items y.items

  -- the others stay where one is inserted
  pub others_kept : (ks : List (Vec ℕ A)) (k : Vec ℕ A) → KeepsTexts ks (insert_key by_bytes ks k)
  others_kept [] k text h = right (same_bytes text k.items) false h
  others_kept (x ∷ xs) k text h = by (by_bytes k x) (others_kept xs k text)
    where
      by : (o : Ordering) → (IsAmong (texts_of xs) text → IsAmong (texts_of (insert_key by_bytes xs k)) text)
          → IsAmong (texts_of (match_ordering o (k ∷ x ∷ xs) (x ∷ xs) (x ∷ insert_key by_bytes xs k))) text
      by Less more = right (same_bytes text k.items) (list_any (same_bytes text) (texts_of (x ∷ xs))) h
      by Equal more = h
      by Greater more = either_more (same_bytes text x.items) (list_any (same_bytes text) (texts_of xs)) (list_any (same_bytes text) (texts_of (insert_key by_bytes xs k))) more h

  -- and that one is there
  pub inserted : (ks : List (Vec ℕ A)) (k : Vec ℕ A) → IsAmong (texts_of (insert_key by_bytes ks k)) k.items
  inserted [] k = left (same_bytes k.items k.items) false (itself k.items)
  inserted (x ∷ xs) k = by (by_bytes k x) refl (inserted xs k)
    where
      by : (o : Ordering) → by_bytes k x ≡ o → IsAmong (texts_of (insert_key by_bytes xs k)) k.items
          → IsAmong (texts_of (match_ordering o (k ∷ x ∷ xs) (x ∷ xs) (x ∷ insert_key by_bytes xs k))) k.items
      by Less e more = left (same_bytes k.items k.items) (list_any (same_bytes k.items) (texts_of (x ∷ xs))) (itself k.items)
      by Equal e more = left (same_bytes k.items x.items) (list_any (same_bytes k.items) (texts_of xs)) (is_true _ (is_same k.items x.items (same_text k.items x.items e)))
      by Greater e more = right (same_bytes k.items x.items) (list_any (same_bytes k.items) (texts_of (insert_key by_bytes xs k))) more

  -- what a look-up finds is there
  pub found : (ks : List (Vec ℕ A)) (text : Bytes) → list_any (λ k. is_eq (byte_cmp text k.items)) ks ≡ true → IsAmong (texts_of ks) text
  found ks text e = sym (same ks) ∙ e
    where
      same : (ks : List (Vec ℕ A)) → list_any (λ k. is_eq (byte_cmp text k.items)) ks ≡ list_any (same_bytes text) (texts_of ks)
      same [] = refl
      same (x ∷ xs) = λ i. is_eq-slice_cmp text x.items i || same xs i
