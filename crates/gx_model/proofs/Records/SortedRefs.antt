-- What a binary search by name finds among refs in order, and what an edit at that place does.
use Rattle.std.proofs.Common.{◌≡◌, ℕ, zero, suc, ◌+◌, ◌<◌, ◌≤◌, false, cond, List, [], ◌∷◌, length, map, get_or, set, insert, Some, None, refl, sym, ap, subst, ◌∙◌, arith, ⊎_elim}
use Rattle.std.specs.Prelude.{T}
use Rattle.std.specs.Bool.{passes}
use Rattle.std.specs.Map.{lookup}
use Rattle.std.specs.Ordering.{is_lt, is_eq, ordering_index, ordering_reverse}
use Rattle.std.specs.declared.cmp.Ordering.{Ordering}
use Rattle.std.specs.declared.cmp.Ordering.TheVariants.{Less, Equal, Greater}
use Rattle.std.specs.Cmp.{IsTotalOrder}
use Rattle.std.specs.Cmp.Lexicographic.{nat_list_cmp_total}
use Rattle.std.specs.List.Sorted.{IsNonDecreasingBy, IsPartitionPoint}
use Rattle.std.specs.FinMap.Entries.{below_all, by_order, is_sorted, put}
use Rattle.std.proofs.lemmas.Bool.{false≢true, true≢false, false_from_ne_true, cases_lt}
use Rattle.std.proofs.lemmas.List.Sorted.{searchable_from_sorted}
use Rattle.std.proofs.lemmas.Map.Text.{is_eq-slice_cmp}
use Rattle.std.proofs.lemmas.Slice.Eq.{bytes_eq-Decides}
use Rattle.gx_model.specs.Texts.{Bytes, byte_cmp, same_bytes}
use Rattle.gx_model.proofs.Texts.PathTests.{first, second, is_true, is_same, same_is}

pub order : IsTotalOrder byte_cmp
order = nat_list_cmp_total

pub same_text : (x y : Bytes) → byte_cmp x y ≡ Equal → x ≡ y
same_text x y e = (bytes_eq-Decides x y).0 (sym (is_eq-slice_cmp x y) ∙ ap is_eq e)

less : (o : Ordering) → T (is_lt o) → o ≡ Less
less Less h = refl
less Equal h = absurd h
less Greater h = absurd h

turned : (x y : Bytes) (o : Ordering) → byte_cmp x y ≡ o → byte_cmp y x ≡ ordering_reverse o
turned x y o e = order.antisymm y x ∙ ap ordering_reverse e

-- a text is not below itself
not_below : (x : Bytes) → byte_cmp x x ≡ Less → ⊥
not_below x e = let turn : Less ≡ Greater = sym e ∙ turned x x Less e in false≢true (sym (ap is_lt turn))

other_text : (n x : Bytes) → (byte_cmp x n ≡ Equal → ⊥) → same_bytes n x ≡ false
other_text n x h = false_from_ne_true _ (λ e. h (subst (λ z. byte_cmp z n ≡ Equal) (same_is n x (passes _ e)) (itself n)))
  where
    itself : (n : Bytes) → byte_cmp n n ≡ Equal
    itself n = by (byte_cmp n n) refl where
      by : (o : Ordering) → byte_cmp n n ≡ o → byte_cmp n n ≡ Equal
      by Less e = absurd (not_below n e)
      by Equal e = e
      by Greater e = absurd (not_below n (turned n n Greater e))

module _ {X : Type 0} (see : X → Bytes × Bytes) where
  below_at : (k : Bytes) (xs : List X) (i : ℕ) (d : X) → T (below_all byte_cmp k (map see xs)) → i < length xs → byte_cmp k (see (get_or xs i d)).0 ≡ Less
  below_at k [] i d h lt = absurd (omega arith)
  below_at k (x ∷ xs) zero d h lt = less _ (first _ _ h)
  below_at k (x ∷ xs) (suc i) d h lt = below_at k xs i d (second (is_lt (byte_cmp k (see x).0)) _ h) (omega arith)

  in_order : (xs : List X) → T (is_sorted byte_cmp (map see xs)) → (k : ℕ) (d : X) → suc k < length xs → is_lt (byte_cmp (see (get_or xs (suc k) d)).0 (see (get_or xs k d)).0) ≡ false
  in_order [] h k d lt = absurd (omega arith)
  in_order (x ∷ xs) h zero d lt = ap is_lt (turned (see x).0 (see (get_or xs zero d)).0 Less (below_at (see x).0 xs zero d (first _ _ h) (omega arith)))
  in_order (x ∷ xs) h (suc k) d lt = in_order xs (second (below_all byte_cmp (see x).0 (map see xs)) _ h) k d (omega arith)

  -- the answers of a search for a name rise
  pub answers_rise : (n : Bytes) (xs : List X) → T (is_sorted byte_cmp (map see xs)) → IsNonDecreasingBy (λ x. ordering_index (byte_cmp (see x).0 n)) xs
  answers_rise n xs h = searchable_from_sorted order (λ x. (see x).0) xs n (λ k d low lt. let e : k + 1 ≡ suc k = omega arith in rw e (in_order xs h k d (omega arith)))

  -- the place of a name is the first
  before_place : (n : Bytes) (x : X) (xs : List X) (i : ℕ) (d : X) → T (is_sorted byte_cmp (map see (x ∷ xs))) → i < length xs → byte_cmp (see (get_or xs i d)).0 n ≡ Equal → byte_cmp (see x).0 n ≡ Less
  before_place n x xs i d h lt e = subst (λ z. byte_cmp (see x).0 z ≡ Less) (same_text _ n e) (below_at (see x).0 xs i d (first _ _ h) lt)

  pub found_at : (n : Bytes) (xs : List X) (i : ℕ) (d : X) → T (is_sorted byte_cmp (map see xs)) → i < length xs → byte_cmp (see (get_or xs i d)).0 n ≡ Equal
      → Some (see (get_or xs i d)).1 ≡ lookup (same_bytes n) (map see xs)
  found_at n [] i d h lt e = absurd (omega arith)
  found_at n (x ∷ xs) zero d h lt e =
      sym (ap (λ b. cond b (Some (see x).1) (lookup (same_bytes n) (map see xs))) (is_true _ (is_same n (see x).0 (sym (same_text _ n e)))))
  found_at n (x ∷ xs) (suc i) d h lt e =
      let less = before_place n x xs i d h (omega arith) e in
      found_at n xs i d (second (below_all byte_cmp (see x).0 (map see xs)) _ h) (omega arith) e
      ∙ sym (ap (λ b. cond b (Some (see x).1) (lookup (same_bytes n) (map see xs))) (other_text n (see x).0 (λ q. false≢true (sym (ap is_lt (sym less ∙ q))))))

  pub not_found : (n : Bytes) (xs : List X) → ((i : ℕ) (d : X) → i < length xs → byte_cmp (see (get_or xs i d)).0 n ≡ Equal → ⊥) → None ≡ lookup (same_bytes n) (map see xs)
  not_found n [] h = refl
  not_found n (x ∷ xs) h =
      not_found n xs (λ i d lt. h (suc i) d (omega arith))
      ∙ sym (ap (λ b. cond b (Some (see x).1) (lookup (same_bytes n) (map see xs))) (other_text n (see x).0 (h zero x (omega arith))))

  -- what a put does at the place of its name
  pub put_there : (n object : Bytes) (xs : List X) (i : ℕ) (d y : X) → T (is_sorted byte_cmp (map see xs)) → i < length xs → byte_cmp (see (get_or xs i d)).0 n ≡ Equal
      → see y ≡ ((see (get_or xs i d)).0, object) → map see (set xs i y) ≡ put byte_cmp n object (map see xs)
  put_there n object [] i d y h lt e is = absurd (omega arith)
  put_there n object (x ∷ xs) zero d y h lt e is =
      ap (λ z. z ∷ map see xs) is
      ∙ sym (ap (λ o. by_order o ((n, object) ∷ see x ∷ map see xs) (((see x).0, object) ∷ map see xs) (see x ∷ put byte_cmp n object (map see xs))) (turned _ n Equal e))
  put_there n object (x ∷ xs) (suc i) d y h lt e is =
      ap (λ es. see x ∷ es) (put_there n object xs i d y (second (below_all byte_cmp (see x).0 (map see xs)) _ h) (omega arith) e is)
      ∙ sym (ap (λ o. by_order o ((n, object) ∷ see x ∷ map see xs) (((see x).0, object) ∷ map see xs) (see x ∷ put byte_cmp n object (map see xs))) (turned _ n Less (before_place n x xs i d h (omega arith) e)))

  -- and between the smaller names and the greater ones
  pub put_between : (n object : Bytes) (xs : List X) (i : ℕ) (y : X) → i ≤ length xs
      → ((j : ℕ) (d : X) → j < i → byte_cmp (see (get_or xs j d)).0 n ≡ Less) → ((j : ℕ) (d : X) → i ≤ j → j < length xs → byte_cmp (see (get_or xs j d)).0 n ≡ Greater)
      → see y ≡ (n, object) → map see (insert xs i y) ≡ put byte_cmp n object (map see xs)
  put_between n object [] zero y le smaller greater is = ap (λ z. z ∷ []) is
  put_between n object [] (suc i) y le smaller greater is = absurd (omega arith)
  put_between n object (x ∷ xs) zero y le smaller greater is =
      ap (λ z. z ∷ see x ∷ map see xs) is
      ∙ sym (ap (λ o. by_order o ((n, object) ∷ see x ∷ map see xs) (((see x).0, object) ∷ map see xs) (see x ∷ put byte_cmp n object (map see xs))) (turned _ n Greater (greater zero x (omega arith) (omega arith))))
  put_between n object (x ∷ xs) (suc i) y le smaller greater is =
      ap (λ es. see x ∷ es) (put_between n object xs i y (omega arith) (λ j d lt. smaller (suc j) d (omega arith)) (λ j d low lt. greater (suc j) d (omega arith) (omega arith)) is)
      ∙ sym (ap (λ o. by_order o ((n, object) ∷ see x ∷ map see xs) (((see x).0, object) ∷ map see xs) (see x ∷ put byte_cmp n object (map see xs))) (turned _ n Less (smaller zero x (omega arith))))

  -- a name with smaller names before a place and greater ones from there on is not found
  pub not_parted : (n : Bytes) (xs : List X) (i : ℕ) → IsPartitionPoint (λ x. byte_cmp (see x).0 n ≡ Less) (λ x. byte_cmp (see x).0 n ≡ Greater) xs i → None ≡ lookup (same_bytes n) (map see xs)
  not_parted n xs i parted = not_found n xs (λ j d lt e. ⊎_elim
      (λ before. let both : Less ≡ Equal = sym (parted.0 j d (omega arith) before) ∙ e in true≢false (ap is_lt both))
      (λ after. let both : Greater ≡ Equal = sym (parted.1 j d after lt) ∙ e in false≢true (ap is_eq both))
      (cases_lt j i))
