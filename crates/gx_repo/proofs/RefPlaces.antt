-- The place behind a name among refs in order.
use Rattle.std.proofs.Common.{◌≡◌, ℕ, zero, suc, ◌+◌, ◌<◌, ◌≤◌, Bool, true, false, if◌then◌else◌, List, [], ◌∷◌, length, map, get_or, refl, sym, ap, subst, ◌∙◌, arith}
use Rattle.std.specs.Prelude.{T}
use Rattle.std.specs.Bool.{passes}
use Rattle.std.specs.List.{filter}
use Rattle.std.specs.List.Sorted.{IsNonDecreasingBy, IsPartitionPoint}
use Rattle.std.specs.FinMap.Entries.{below_all, is_sorted}
use Rattle.std.specs.Ordering.{is_le, ordering_index, ordering_reverse}
use Rattle.std.specs.declared.cmp.Ordering.TheVariants.{Less, Equal, Greater}
use Rattle.gx_model.specs.Texts.{Bytes, byte_cmp}
use Rattle.gx_model.proofs.Texts.PathTests.{first, second}
use Rattle.gx_model.proofs.Records.SortedRefs.{answers_rise, order, same_text}
use Rattle.gx_repo.specs.Refs.{AreInOrder, place_behind, shown_ref}
use Rattle.gx_repo.specs.declared.refs.Ref.{Ref}
use Rattle.gx_repo.proofs.NamedRefs.{same_cmp}
use Rattle.gx_repo.proofs.RefMaps.{below_at}

module _ {X : Type 0} (see : X → Bytes × Bytes) (n : Bytes) where
  -- the place behind the name, where one ref more stands in front, up to the name or behind it
  abbrev behind_one : Bool → List X → ℕ
  behind_one is_before xs = if is_before then suc (place_behind (map see xs) n) else place_behind (map see xs) n

  -- one ref more in front
  in_front : (x : X) (xs : List X) → place_behind (map see (x ∷ xs)) n ≡ behind_one (is_le (byte_cmp (see x).0 n)) xs
  in_front x xs =
      let rest = filter (λ ref. is_le (byte_cmp ref.0 n)) (map see xs) in
      elim (is_le (byte_cmp (see x).0 n)) as (λ b. length (if b then see x ∷ rest else rest) ≡ behind_one b xs) [ true ↦ refl | false ↦ refl ]

  -- where all names are greater, there is none up to this
  none_before : (xs : List X) → ((j : ℕ) (d : X) → j < length xs → byte_cmp (see (get_or xs j d)).0 n ≡ Greater) → place_behind (map see xs) n ≡ 0
  none_before [] greater = refl
  none_before (x ∷ xs) greater =
      in_front x xs ∙ ap (λ o. behind_one (is_le o) xs) (greater zero x (omega arith))
      ∙ none_before xs (λ j d lt. greater (suc j) d (omega arith))

  -- a smaller name in front
  one_before : (x : X) (xs : List X) (i : ℕ) → is_le (byte_cmp (see x).0 n) ≡ true → place_behind (map see xs) n ≡ i → place_behind (map see (x ∷ xs)) n ≡ suc i
  one_before x xs i le e = in_front x xs ∙ ap (λ b. behind_one b xs) le ∙ ap suc e

  -- between the smaller names and the greater ones
  pub between : (xs : List X) (i : ℕ) → i ≤ length xs
      → IsPartitionPoint (λ x. byte_cmp (see x).0 n ≡ Less) (λ x. byte_cmp (see x).0 n ≡ Greater) xs i → place_behind (map see xs) n ≡ i
  between xs zero le parted = none_before xs (λ j d lt. parted.1 j d (omega arith) lt)
  between [] (suc i) le parted = absurd (omega arith)
  between (x ∷ xs) (suc i) le parted =
      one_before x xs i (ap is_le (parted.0 zero x (omega arith) (omega arith)))
      (between xs i (omega arith) (λ j d low lt. parted.0 (suc j) d (omega arith) (omega arith), λ j d low lt. parted.1 (suc j) d (omega arith) (omega arith)))

  -- behind the name itself
  pub behind_found : (xs : List X) (i : ℕ) (d : X) → T (is_sorted byte_cmp (map see xs)) → i < length xs
      → byte_cmp (see (get_or xs i d)).0 n ≡ Equal → i + 1 ≡ place_behind (map see xs) n
  behind_found [] i d h lt e = absurd (omega arith)
  behind_found (x ∷ xs) zero d h lt e =
      let after = λ (j : ℕ) (d : X) (lt : j < length xs).
      order.antisymm (see (get_or xs j d)).0 (see x).0 ∙ ap ordering_reverse (below_at see (see x).0 xs j d (first _ _ h) lt) in
      let none = none_before xs (λ j d lt. subst (λ z. byte_cmp (see (get_or xs j d)).0 z ≡ Greater) (same_text _ n e) (after j d lt)) in
      sym (one_before x xs zero (ap is_le e) none)
  behind_found (x ∷ xs) (suc i) d h lt e =
      let less = subst (λ z. byte_cmp (see x).0 z ≡ Less) (same_text _ n e) (below_at see (see x).0 xs i d (first _ _ h) (omega arith)) in
      let rest = behind_found xs i d (second (below_all byte_cmp (see x).0 (map see xs)) _ h) (omega arith) e in
      let next : suc i + 1 ≡ suc (i + 1) = omega arith in
      next ∙ sym (one_before x xs (i + 1) (ap is_le less) (sym rest))

module _ {A : Type 0} (n : Bytes) (refs : List (Ref A)) (sorted : AreInOrder refs) where
  -- the place behind the ref at which a search finds the name
  pub place_found : (place : ℕ) (past : Ref A) → place < length refs → byte_cmp (get_or refs place past).name.items n ≡ Equal
      → place + 1 ≡ place_behind (map shown_ref refs) n
  place_found place past lt same = behind_found shown_ref n refs place past (passes _ sorted) lt same

  -- and behind one that is seen with the name
  pub place_seen : (place : ℕ) (held : Ref A) → place < length refs → held ≡ get_or refs place held → held.name.items ≡ n
      → place + 1 ≡ place_behind (map shown_ref refs) n
  place_seen place held lt is same = place_found place held lt (same_cmp n refs sorted _ (sym (ap (λ (r : Ref A). r.name.items) is) ∙ same))

  -- and the place at which it finds none
  pub place_missing : (place : ℕ) → place ≤ length refs
      → (IsNonDecreasingBy (λ (x : Ref A). ordering_index (byte_cmp x.name.items n)) refs
      → IsPartitionPoint (λ (x : Ref A). byte_cmp x.name.items n ≡ Less) (λ (x : Ref A). byte_cmp x.name.items n ≡ Greater) refs place)
      → place ≡ place_behind (map shown_ref refs) n
  place_missing place le parted = sym (between shown_ref n refs place le (parted (answers_rise shown_ref n refs (passes _ sorted))))
