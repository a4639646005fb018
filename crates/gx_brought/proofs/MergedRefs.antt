-- Refs in order, with others set one after the other.
use Rattle.std.proofs.Common.{◌≡◌, ℕ, suc, ◌+◌, ◌<◌, ◌≤◌, refl, sym, ap, subst, ◌∙◌, arith, List, [], ◌∷◌, ◌++◌, length, length-append, append_assoc, map, take, drop, drop-drop, get_or, set}
use Rattle.std.specs.Prelude.{T}
use Rattle.std.specs.List.{AllByRecursion, flat_map}
use Rattle.std.specs.List.Sorted.{IsNonDecreasingBy, IsPartitionPoint}
use Rattle.std.specs.Ordering.{is_lt, ordering_index, ordering_reverse}
use Rattle.std.specs.declared.cmp.Ordering.{Ordering}
use Rattle.std.specs.declared.cmp.Ordering.TheVariants.{Less, Equal, Greater}
use Rattle.std.specs.FinMap.Entries.{below_all, by_order, is_sorted, is_sorted-put, put}
use Rattle.std.proofs.lemmas.Grind.{flat_map-append}
use Rattle.std.proofs.lemmas.List.{drop-set, map-append, take-append-drop, take-set}
use Rattle.gx_model.specs.Records.Publishing.{with_changes}
use Rattle.gx_model.specs.Stores.StoreText.{stored_ref}
use Rattle.gx_model.specs.Texts.{Bytes, byte_cmp}
use Rattle.gx_model.proofs.Records.SortedRefs.{answers_rise, order, put_between, put_there, same_text}
use Rattle.gx_model.proofs.Texts.PathTests.{first, second}

abbrev Ref : Type 0
Ref = Bytes × Bytes

less : (o : Ordering) → T (is_lt o) → o ≡ Less
less Less h = refl
less Equal h = absurd h
less Greater h = absurd h

-- ---- refs before a name

abbrev AreBefore : List Ref → Bytes → Type 0
AreBefore refs name = AllByRecursion (λ ref. byte_cmp ref.0 name ≡ Less) refs

put_behind : (name object : Bytes) (before rest : List Ref) → AreBefore before name → put byte_cmp name object (before ++ rest) ≡ before ++ put byte_cmp name object rest
put_behind name object [] rest b = refl
put_behind name object (e ∷ es) rest b =
    ap (λ o. by_order o ((name, object) ∷ e ∷ (es ++ rest)) ((e.0, object) ∷ (es ++ rest)) (e ∷ put byte_cmp name object (es ++ rest))) (order.antisymm name e.0 ∙ ap ordering_reverse b.0)
    ∙ ap (λ z. e ∷ z) (put_behind name object es rest b.1)

all_behind : (changes before rest : List Ref) → AllByRecursion (λ change. AreBefore before change.0) changes → with_changes (before ++ rest) changes ≡ before ++ with_changes rest changes
all_behind [] before rest b = refl
all_behind (c ∷ cs) before rest b = ap (λ refs. with_changes refs cs) (put_behind c.0 c.1 before rest b.0) ∙ all_behind cs before (put byte_cmp c.0 c.1 rest) b.1

-- ---- refs in order

below_one : (name : Bytes) (before : List Ref) (ref : Ref) (behind : List Ref) → T (below_all byte_cmp name (before ++ ref ∷ behind)) → byte_cmp name ref.0 ≡ Less
below_one name [] ref behind h = less _ (first _ _ h)
below_one name (e ∷ es) ref behind h = below_one name es ref behind (second (is_lt (byte_cmp name e.0)) _ h)

sorted_parts : (before : List Ref) (ref : Ref) (behind : List Ref) → T (is_sorted byte_cmp (before ++ ref ∷ behind)) → AreBefore before ref.0 × T (is_sorted byte_cmp behind)
sorted_parts [] ref behind h = (tt, second (below_all byte_cmp ref.0 behind) _ h)
sorted_parts (e ∷ es) ref behind h =
    let rest = sorted_parts es ref behind (second (below_all byte_cmp e.0 (es ++ ref ∷ behind)) _ h) in
    ((below_one e.0 es ref behind (first _ _ h), rest.0), rest.1)

before_later : (before : List Ref) (ref : Ref) (name : Bytes) → AreBefore before ref.0 → byte_cmp ref.0 name ≡ Less → AreBefore (before ++ ref ∷ []) name
before_later [] ref name b l = (l, tt)
before_later (e ∷ es) ref name b l = (order.trans e.0 ref.0 name b.0 l, before_later es ref name b.1 l)

before_all : (changes before : List Ref) (ref : Ref) → AreBefore before ref.0 → T (below_all byte_cmp ref.0 changes) → AllByRecursion (λ change. AreBefore (before ++ ref ∷ []) change.0) changes
before_all [] before ref b h = tt
before_all (c ∷ cs) before ref b h = (before_later before ref c.0 b (less _ (first _ _ h)), before_all cs before ref b (second (is_lt (byte_cmp ref.0 c.0)) _ h))

-- ---- lines of refs that are set

-- These lines are of so many refs, and where the changes that are left are made to the refs that are left, those make all of them.
pub record AreMerged (all rest changes : List Ref) (lines : Bytes) (count : ℕ) : Type 0 where
  pub spelled : lines ++ flat_map stored_ref (with_changes rest changes) ≡ flat_map stored_ref all
  pub counted : count + length (with_changes rest changes) ≡ length all
  pub bound : count ≤ length lines
  pub in_order : T (is_sorted byte_cmp rest)
  pub changes_in_order : T (is_sorted byte_cmp changes)

pub none_merged : (rest changes : List Ref) → T (is_sorted byte_cmp rest) → T (is_sorted byte_cmp changes) → AreMerged (with_changes rest changes) rest changes [] 0
none_merged rest changes r c = record { spelled = refl; counted = none (length (with_changes rest changes)); bound = omega arith; in_order = r; changes_in_order = c }
  where
    none : (n : ℕ) → 0 + n ≡ n
    none n = omega arith

-- behind refs that are left
pub left_behind : {X : Type 0} (see : X → Ref) (refs : List X) (at more : ℕ) → map see (drop more (drop at refs)) ≡ map see (drop (at + more) refs)
left_behind see refs at more = ap (map see) (drop-drop more at refs)

-- the refs before the next change, and that one
pub one_merged : (all rest changes : List Ref) (ref : Ref) (before behind : List Ref) (lines : Bytes) (count : ℕ) → AreMerged all rest (ref ∷ changes) lines count → put byte_cmp ref.0 ref.1 rest ≡ before ++ ref ∷ behind
    → (then_lines new_lines : Bytes) (then_count new_count : ℕ) → then_lines ≡ lines ++ flat_map stored_ref before → new_lines ≡ then_lines ++ stored_ref ref → then_count ≡ count + length before → new_count ≡ then_count + 1
    → new_count ≤ length new_lines → AreMerged all behind changes new_lines new_count
one_merged all rest changes ref before behind lines count m is then_lines new_lines then_count new_count f g h k bound =
    let sorted = sorted_parts before ref behind (subst (λ z. T (is_sorted byte_cmp z)) is (is_sorted-put byte_cmp order ref.0 ref.1 rest m.in_order)) in
    let left = with_changes behind changes in
    let made : with_changes rest (ref ∷ changes) ≡ before ++ ref ∷ left =
    ap (λ refs. with_changes refs changes) (is ∙ sym (append_assoc before (ref ∷ []) behind))
    ∙ all_behind changes (before ++ ref ∷ []) behind (before_all changes before ref sorted.0 (first (below_all byte_cmp ref.0 changes) _ m.changes_in_order))
    ∙ append_assoc before (ref ∷ []) left in
    record {
      spelled = ap (λ z. z ++ flat_map stored_ref left) (g ∙ ap (λ z. z ++ stored_ref ref) f) ∙ regroup lines (flat_map stored_ref before) (stored_ref ref) (flat_map stored_ref left)
          ∙ ap (λ z. lines ++ z) (sym (flat_map-append stored_ref before (ref ∷ left)) ∙ ap (flat_map stored_ref) (sym made)) ∙ m.spelled;
      counted = total count then_count new_count (length before) (length left) (length (before ++ ref ∷ left)) (length all) h k (length-append before (ref ∷ left)) (ap (λ refs. count + length refs) (sym made) ∙ m.counted);
      bound = bound;
      in_order = sorted.1;
      changes_in_order = second (below_all byte_cmp ref.0 changes) _ m.changes_in_order;
    }
  where
    regroup : (a b c d : Bytes) → ((a ++ b) ++ c) ++ d ≡ a ++ (b ++ (c ++ d))
    regroup a b c d = simp append_assoc

    total : (count then new before left both all : ℕ) → then ≡ count + before → new ≡ then + 1 → both ≡ before + suc left → count + both ≡ all → new + left ≡ all
    total count then new before left both all e f g h = omega arith

-- all that are left
pub all_merged : (all rest : List Ref) (lines : Bytes) (count : ℕ) → AreMerged all rest [] lines count → (new_lines : Bytes) (new_count : ℕ) → new_lines ≡ lines ++ flat_map stored_ref rest → new_count ≡ count + length rest
    → (new_lines ≡ flat_map stored_ref all) × (new_count ≡ length all)
all_merged all rest lines count m new_lines new_count f g = (f ∙ m.spelled, g ∙ m.counted)

-- ---- where a name stands among refs

module _ {X : Type 0} (see : X → Ref) (name object : Bytes) (refs : List X) (sorted : T (is_sorted byte_cmp (map see refs))) where
  -- at a place where a search finds it
  pub parted_at : (place : ℕ) (past : X) (held : X) → place < length refs → byte_cmp (see (get_or refs place past)).0 name ≡ Equal → see held ≡ ((see (get_or refs place past)).0, object)
      → put byte_cmp name object (map see refs) ≡ map see (take place refs) ++ (name, object) ∷ map see (drop (place + 1) refs)
  parted_at place past held lt at is =
      sym (put_there see name object refs place past held sorted lt at is)
      ∙ ap (map see) (sym (take-append-drop place (set refs place held)) ∙ ap (λ front. front ++ drop place (set refs place held)) (take-set refs place held) ∙ ap (λ rest. take place refs ++ rest) (drop-set refs place held lt))
      ∙ map-append see (take place refs) (held ∷ drop (place + 1) refs)
      ∙ ap (λ ref. map see (take place refs) ++ ref ∷ map see (drop (place + 1) refs)) (is ∙ ap (λ n. (n, object)) (same_text _ name at))

  -- and where it finds none
  pub parted_between : (place : ℕ) (held : X) → place ≤ length refs → (IsNonDecreasingBy (λ x. ordering_index (byte_cmp (see x).0 name)) refs → IsPartitionPoint (λ x. byte_cmp (see x).0 name ≡ Less) (λ x. byte_cmp (see x).0 name ≡ Greater) refs place)
      → see held ≡ (name, object) → put byte_cmp name object (map see refs) ≡ map see (take place refs) ++ (name, object) ∷ map see (drop place refs)
  parted_between place held le parted is =
      let p = parted (answers_rise see name refs sorted) in
      sym (put_between see name object refs place held le (λ j d lt. p.0 j d (omega arith) (omega arith)) (λ j d low lt. p.1 j d (omega arith) (omega arith)) is)
      ∙ map-append see (take place refs) (held ∷ drop place refs)
      ∙ ap (λ ref. map see (take place refs) ++ ref ∷ map see (drop place refs)) is
