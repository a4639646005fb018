-- A map from names to objects, seen as refs.
use Rattle.std.proofs.Common.{◌≡◌, ℕ, zero, suc, ◌+◌, ◌<◌, List, [], ◌∷◌, ◌++◌, append_assoc, length, map, take, drop, get_or, refl, sym, ap, ◌∙◌, arith}
use Rattle.std.specs.Prelude.{T, IsTrue}
use Rattle.std.specs.Bool.{passes}
use Rattle.std.specs.BTreeMap.{insert_entry}
use Rattle.std.specs.Ordering.{is_lt, match_ordering, ordering_reverse}
use Rattle.std.specs.declared.cmp.Ordering.{Ordering}
use Rattle.std.specs.declared.cmp.Ordering.TheVariants.{Less, Equal, Greater}
use Rattle.std.specs.declared.vec.Vec.{Vec}
use Rattle.std.specs.FinMap.Entries.{below_all, by_order, is_sorted, put}
use Rattle.std.proofs.lemmas.List.{drop_more, map-append}
use Rattle.gx_model.specs.Texts.{Bytes, byte_cmp}
use Rattle.gx_model.specs.Records.Publishing.{with_changes}
use Rattle.gx_model.proofs.Texts.PathTests.{first, second}
use Rattle.gx_model.proofs.Records.SortedRefs.{order}
use Rattle.gx_object.specs.declared.name.Name.{Name}
use Rattle.gx_repo.specs.Publishing.{Enters}
use Rattle.gx_repo.specs.Refs.{shown_update, shown_ref, ref_of}
use Rattle.gx_repo.specs.declared.refs.Ref.{Ref}
use Rattle.gx_repo.specs.declared.publishing.RefChange.{RefChange}

less : (o : Ordering) → T (is_lt o) → o ≡ Less
less Less h = refl
less Equal h = absurd h
less Greater h = absurd h

module _ {X : Type 0} (see : X → Bytes × Bytes) where
  -- what is sorted behind a name comes after it
  pub below_at : (k : Bytes) (xs : List X) (i : ℕ) (d : X) → T (below_all byte_cmp k (map see xs)) → i < length xs → byte_cmp k (see (get_or xs i d)).0 ≡ Less
  below_at k [] i d h lt = absurd (omega arith)
  below_at k (x ∷ xs) zero d h lt = less _ (first _ _ h)
  below_at k (x ∷ xs) (suc i) d h lt = below_at k xs i d (second (is_lt (byte_cmp k (see x).0)) _ h) (omega arith)

  -- the next of refs in order is put behind those before it
  put_next : (xs : List X) (i : ℕ) (d : X) → T (is_sorted byte_cmp (map see xs)) → i < length xs
      → put byte_cmp (see (get_or xs i d)).0 (see (get_or xs i d)).1 (map see (take i xs)) ≡ map see (take (suc i) xs)
  put_next [] i d h lt = absurd (omega arith)
  put_next (x ∷ xs) zero d h lt = refl
  put_next (x ∷ xs) (suc i) d h lt =
      let next = see (get_or xs i d) in
      let greater : byte_cmp next.0 (see x).0 ≡ Greater = order.antisymm next.0 (see x).0 ∙ ap ordering_reverse (below_at (see x).0 xs i d (first _ _ h) (omega arith)) in
      ap (λ o. by_order o (next ∷ see x ∷ map see (take i xs)) (((see x).0, next.1) ∷ map see (take i xs)) (see x ∷ put byte_cmp next.0 next.1 (map see (take i xs)))) greater
      ∙ ap (λ rs. see x ∷ rs) (put_next xs i d (second (below_all byte_cmp (see x).0 (map see xs)) _ h) (omega arith))

module _ {A : Type 0} where
  -- the order of the names in a map
  abbrev name_cmp : Vec ℕ A → Vec ℕ A → Ordering
  name_cmp x y = byte_cmp x.items y.items

  -- what a map inserts, refs put
  put_named : (name : Vec ℕ A) (object : Name) (es : List (Vec ℕ A × Name)) → map ref_of (insert_entry name_cmp es name object) ≡ put byte_cmp name.items object.bytes (map ref_of es)
  put_named name object [] = refl
  put_named name object (e ∷ es) =
      elim (byte_cmp name.items e.0.items) as (λ o. map ref_of (match_ordering o ((name, object) ∷ e ∷ es) ((e.0, object) ∷ es) (e ∷ insert_entry name_cmp es name object))
      ≡ by_order o ((name.items, object.bytes) ∷ map ref_of (e ∷ es)) ((e.0.items, object.bytes) ∷ map ref_of es) (ref_of e ∷ put byte_cmp name.items object.bytes (map ref_of es))) [
        | Less ↦ refl
        | Equal ↦ refl
        | Greater ↦ ap (λ rs. ref_of e ∷ rs) (put_named name object es)
      ]

  -- what a map inserts at a copy of a name
  pub put_copied : (name : Vec ℕ A) (copied : Bytes) (object : Name) (es now : List (Vec ℕ A × Name)) → name.items ≡ copied → now ≡ insert_entry name_cmp es name object → Enters es now copied object
  put_copied name copied object es now same made = ap (map ref_of) made ∙ put_named name object es ∙ ap (λ n. put byte_cmp n object.bytes (map ref_of es)) same

  -- the next of refs in order, entered among those before it
  pub one_more : (refs : List (Ref A)) (i : ℕ) (held : Ref A) (name : Bytes) (es now : List (Vec ℕ A × Name)) → IsTrue (is_sorted byte_cmp (map shown_ref refs)) → i < length refs → held ≡ get_or refs i held
      → name ≡ held.name.items → Enters es now name held.object → map ref_of es ≡ map shown_ref (take i refs) → map ref_of now ≡ map shown_ref (take (i + 1) refs)
  one_more refs i held name es now sorted lt is same made e =
      made
      ∙ ap (λ n. put byte_cmp n held.object.bytes (map ref_of es)) same
      ∙ ap (put byte_cmp held.name.items held.object.bytes) e
      ∙ ap (λ r. put byte_cmp r.name.items r.object.bytes (map shown_ref (take i refs))) is
      ∙ put_next shown_ref refs i held (passes _ sorted) lt
      ∙ ap (λ n. map shown_ref (take n refs)) (let more : suc i ≡ i + 1 = omega arith in more)

  -- one change more is entered, and the others are left
  pub one_made : (changes : List RefChange) (i : ℕ) (d : RefChange) (es now : List (Vec ℕ A × Name)) (all : List (Bytes × Bytes)) → i < length changes
      → Enters es now (get_or changes i d).name.now (get_or changes i d).target
      → with_changes (map ref_of es) (map shown_update (drop i changes)) ≡ all → with_changes (map ref_of now) (map shown_update (drop (i + 1) changes)) ≡ all
  one_made changes i d es now all lt made e =
      ap (λ refs. with_changes refs (map shown_update (drop (i + 1) changes))) made
      ∙ sym (ap (λ cs. with_changes (map ref_of es) (map shown_update cs)) (drop_more changes i d lt)) ∙ e

  -- the next of a map's refs, behind those before it
  pub next_added : (refs now : List (Ref A)) (ref : Ref A) (entry : Vec ℕ A × Name) (left more : List (Vec ℕ A × Name)) (all : List (Bytes × Bytes)) → now ≡ refs ++ ref ∷ []
      → left ≡ entry ∷ more → shown_ref ref ≡ ref_of entry → map shown_ref refs ++ map ref_of left ≡ all → map shown_ref now ++ map ref_of more ≡ all
  next_added refs now ref entry left more all made s same h =
      ap (λ rs. map shown_ref rs ++ map ref_of more) made
      ∙ ap (λ rs. rs ++ map ref_of more) (map-append shown_ref refs (ref ∷ []))
      ∙ append_assoc (map shown_ref refs) (shown_ref ref ∷ []) (map ref_of more)
      ∙ ap (λ r. map shown_ref refs ++ r ∷ map ref_of more) same
      ∙ sym (ap (λ es. map shown_ref refs ++ map ref_of es) s) ∙ h
