-- Refs by their names: what a binary search tells, and what it is to set the object of a ref that is held.
use Rattle.std.proofs.Common.{◌≡◌, ℕ, ◌+◌, ◌<◌, Bool, true, false, cond, List, [], ◌∷◌, length, map, drop, get_or, set, Option, Some, None, refl, sym, ap, subst, ◌∙◌}
use Rattle.std.specs.Prelude.{◌&&◌, IsTrue, T, is_some}
use Rattle.std.specs.Bool.{passes}
use Rattle.std.specs.List.Sorted.{IsNonDecreasingBy, IsPartitionPoint}
use Rattle.std.specs.Map.{lookup}
use Rattle.std.specs.FinMap.Entries.{find, find-put, is_sorted, is_sorted-put, put}
use Rattle.std.specs.Ordering.{eq_by_cmp, is_eq, ordering_index}
use Rattle.std.specs.declared.cmp.Ordering.{Ordering}
use Rattle.std.specs.declared.cmp.Ordering.TheVariants.{Less, Equal, Greater}
use Rattle.std.proofs.lemmas.Map.Text.{is_eq-slice_cmp}
use Rattle.std.proofs.lemmas.List.{drop_more}
use Rattle.gx_model.specs.Texts.{Bytes, byte_cmp, same_bytes}
use Rattle.gx_model.specs.Records.Publishing.{Change, with_change, with_changes}
use Rattle.gx_model.proofs.Texts.PathTests.{both, first, second, is_same, is_true}
use Rattle.gx_model.proofs.Records.SortedRefs.{answers_rise, found_at, not_parted, order, put_there}
use Rattle.gx_object.specs.declared.name.Name.{Name}
use Rattle.gx_repo.specs.Refs.{AreInOrder, FindsObject, are_held, shown_update, shown_ref, is_ref_held}
use Rattle.gx_repo.specs.declared.refs.Ref.{Ref}
use Rattle.gx_repo.specs.declared.publishing.RefChange.{RefChange}

module _ {A : Type 0} (n : Bytes) (refs : List (Ref A)) (sorted : AreInOrder refs) where
  -- a name stands to itself as equal
  pub same_cmp : (x : Bytes) → x ≡ n → byte_cmp x n ≡ Equal
  same_cmp x e = tied_cmp (byte_cmp x n) (is_eq-slice_cmp x n ∙ is_true _ (is_same x n e))
    where
      tied_cmp : (o : Ordering) → is_eq o ≡ true → o ≡ Equal
      tied_cmp Equal t = refl
      tied_cmp Less t = absurd (cc t)
      tied_cmp Greater t = absurd (cc t)

  -- what is looked up at the name is the object of the ref that is seen with it
  pub object_seen : (place : ℕ) (held : Ref A) → place < length refs → held ≡ get_or refs place held → held.name.items ≡ n → Some held.object.bytes ≡ lookup (same_bytes n) (map shown_ref refs)
  object_seen place held lt is same =
      ap (λ (r : Ref A). Some r.object.bytes) is ∙ found_at shown_ref n refs place held (passes _ sorted) lt (same_cmp _ (sym (ap (λ (r : Ref A). r.name.items) is) ∙ same))

  -- and that of the ref at the place that a search for it gives
  pub object_found : (place : ℕ) (past : Ref A) → place < length refs → byte_cmp (get_or refs place past).name.items n ≡ Equal → Some (get_or refs place past).object.bytes ≡ lookup (same_bytes n) (map shown_ref refs)
  object_found place past lt same = found_at shown_ref n refs place past (passes _ sorted) lt same

  -- and none where a search gives no place
  pub none_found : (place : ℕ) → (IsNonDecreasingBy (λ (x : Ref A). ordering_index (byte_cmp x.name.items n)) refs → IsPartitionPoint (λ (x : Ref A). byte_cmp x.name.items n ≡ Less) (λ (x : Ref A). byte_cmp x.name.items n ≡ Greater) refs place)
      → None ≡ lookup (same_bytes n) (map shown_ref refs)
  none_found place parted = not_parted shown_ref n refs place (parted (answers_rise shown_ref n refs (passes _ sorted)))

  -- with the object set, refs have it put
  pub object_set : (object : Name) (place : ℕ) (held : Ref A) → place < length refs → held ≡ get_or refs place held → byte_cmp (get_or refs place held).name.items n ≡ Equal
      → map shown_ref (set refs place (record { name = held.name; object = object })) ≡ put byte_cmp n object.bytes (map shown_ref refs)
  object_set object place held lt is same =
      put_there shown_ref n object.bytes refs place held (record { name = held.name; object = object }) (passes _ sorted) lt same (ap (λ (r : Ref A). (r.name.items, object.bytes)) is)

-- a ref of a name is held where an object is found at it
pub held_where : (refs : List (Bytes × Bytes)) (name : Bytes) (found : Option Name) → FindsObject refs name found → is_some found ≡ is_ref_held refs name
held_where refs name None h = ap is_some h
held_where refs name (Some object) h = ap is_some h

-- changes that are made leave refs in order
pub in_order_with : (refs : List (Bytes × Bytes)) (changes : List Change) → T (is_sorted byte_cmp refs) → T (is_sorted byte_cmp (with_changes refs changes))
in_order_with refs [] s = s
in_order_with refs (c ∷ cs) s = in_order_with (put byte_cmp c.0 c.1 refs) cs (is_sorted-put byte_cmp order c.0 c.1 refs s)

-- refs that are held stay so where one is set
pub still_held : (n object : Bytes) (refs : List (Bytes × Bytes)) (changes : List Change) → are_held refs changes ≡ true → are_held (put byte_cmp n object refs) changes ≡ true
still_held n object refs [] h = refl
still_held n object refs (c ∷ cs) h =
    let at : T (is_ref_held (put byte_cmp n object refs) c.0) = held_put (first _ _ (passes _ h)) in
    is_true _ (both _ _ at (passes _ (still_held n object refs cs (is_true _ (second (is_ref_held refs c.0) _ (passes _ h))))))
  where
    found : (m : Bytes) (rs : List (Bytes × Bytes)) → find byte_cmp m rs ≡ lookup (same_bytes m) rs
    found m [] = refl
    found m (r ∷ rs) = λ i. cond (is_eq-slice_cmp m r.0 i) (Some r.1) (found m rs i)

    held_put : T (is_ref_held refs c.0) → T (is_ref_held (put byte_cmp n object refs) c.0)
    held_put t = subst (λ o. T (is_some o)) (sym (find-put byte_cmp order c.0 n object refs) ∙ found c.0 (put byte_cmp n object refs)) (by (eq_by_cmp byte_cmp c.0 n))
      where
        by : (b : Bool) → T (is_some (cond b (Some object) (find byte_cmp c.0 refs)))
        by true = tt
        by false = subst (λ o. T (is_some o)) (sym (found c.0 refs)) t

-- of the changes that are left, the next is looked at first
pub next_is_held : (refs : List (Bytes × Bytes)) (changes : List RefChange) (i : ℕ) (d : RefChange) (b : Bool) → i < length changes → is_ref_held refs (get_or changes i d).name.now ≡ b
    → are_held refs (map shown_update (drop i changes)) ≡ (b && are_held refs (map shown_update (drop (i + 1) changes)))
next_is_held refs changes i d b lt e =
    ap (λ cs. are_held refs (map shown_update cs)) (drop_more changes i d lt) ∙ ap (λ a. a && are_held refs (map shown_update (drop (i + 1) changes))) e

-- so a ref of its name is held where those of all that are left are
pub held_next : (refs : List (Bytes × Bytes)) (changes : List RefChange) (i : ℕ) (d : RefChange) → i < length changes → IsTrue (are_held refs (map shown_update (drop i changes)))
    → IsTrue (is_ref_held refs (get_or changes i d).name.now)
held_next refs changes i d lt h = is_true _ (first _ _ (passes _ (sym (next_is_held refs changes i d _ lt refl) ∙ h)))

-- one change more is made, and the others are left
module _ (changes : List RefChange) (i : ℕ) (d : RefChange) (refs now : List (Bytes × Bytes)) (lt : i < length changes) (made : now ≡ with_change refs (shown_update (get_or changes i d))) where
  next : map shown_update (drop i changes) ≡ shown_update (get_or changes i d) ∷ map shown_update (drop (i + 1) changes)
  next = ap (map shown_update) (drop_more changes i d lt)

  pub next_held : IsTrue (are_held refs (map shown_update (drop i changes))) → IsTrue (are_held now (map shown_update (drop (i + 1) changes)))
  next_held h =
      let change = shown_update (get_or changes i d) in
      let all = passes _ (subst (λ cs. IsTrue (are_held refs cs)) next h) in
      subst (λ rs. IsTrue (are_held rs (map shown_update (drop (i + 1) changes)))) (sym made)
      (still_held change.0 change.1 refs (map shown_update (drop (i + 1) changes)) (is_true _ (second (is_ref_held refs change.0) _ all)))

  pub next_left : (all : List (Bytes × Bytes)) → with_changes refs (map shown_update (drop i changes)) ≡ all → with_changes now (map shown_update (drop (i + 1) changes)) ≡ all
  next_left all e = ap (λ rs. with_changes rs (map shown_update (drop (i + 1) changes))) made ∙ sym (ap (with_changes refs) next) ∙ e
