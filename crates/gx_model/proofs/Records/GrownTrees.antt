-- Putting the records of a file map's trees is adding the file map.
use Rattle.std.proofs.Common.{◌≡◌, ℕ, zero, suc, true, false, cond, refl, sym, ap, subst, ◌∙◌, arith, List, [], ◌∷◌, ◌++◌, map, Option, None, Some}
use Rattle.std.specs.Prelude.{T, is_none, max, length}
use Rattle.std.specs.List.{filter, flat_map, fold, AllByRecursion}
use Rattle.std.specs.Option.{option_map}
use Rattle.std.proofs.lemmas.List.{map-append}
use Rattle.gx_model.specs.declared.objects.Kind.{Kind}
use Rattle.gx_model.specs.Texts.{Bytes}
use Rattle.gx_model.specs.Histories.Files.{FileMap, Leaf, file_at, sub_map, first_components, depth}
use Rattle.gx_model.specs.Histories.Values.{Value, blob_value, tree_value, commit_value, tag_value, files_of, blobs_of, sub_maps, parts, is_content}
use Rattle.gx_model.specs.Records.{named_map, content_name}
use Rattle.gx_model.specs.Histories.{IsIn, with_one, with_tree_to, with_tree, with_value, record_of}
use Rattle.gx_model.specs.Histories.{IsWhole}
use Rattle.gx_model.specs.Records.Growth.{AreReady, all_trees_to, all_trees, tree_record, tree_records}
use Rattle.gx_model.proofs.Texts.PathTests.{is_true}
use Rattle.gx_model.proofs.ObjectTexts.OneTree.{all_right, sub_named, at_named, firsts_named}
use Rattle.gx_model.proofs.Records.LinkedValues.{parts_in}
use Rattle.gx_model.proofs.Records.GrownRecords.{is_is_in}
use Rattle.gx_model.proofs.Histories.AddedValues.{CanAdd, all_added, all_join, all_keep, subs_can, can_later, empty_of, keeps, keeps_all, paths_of, tree_added_to}

fold_append : {A B : Type 0} (f : A → B → A) (a : A) (xs ys : List B) → fold f a (xs ++ ys) ≡ fold f (fold f a xs) ys
fold_append f a [] ys = refl
fold_append f a (x ∷ xs) ys = fold_append f (f a x) xs ys

-- ---- one by one

values_of_trees : List (FileMap Bytes) → List Value
values_of_trees fs = map tree_value fs

subs_fold : (n : ℕ) → ((vs : List Value) (f : FileMap Bytes) → with_tree_to n vs f ≡ fold with_one vs (map tree_value (all_trees_to n f))) → (gs : List (FileMap Bytes)) (vs : List Value) → fold (with_tree_to n) vs gs ≡ fold with_one vs (map tree_value (flat_map (all_trees_to n) gs))
subs_fold n one [] vs = refl
subs_fold n one (g ∷ gs) vs =
    ap (λ z. fold (with_tree_to n) z gs) (one vs g)
    ∙ subs_fold n one gs (fold with_one vs (map tree_value (all_trees_to n g)))
    ∙ sym (ap (fold with_one vs) (map-append tree_value (all_trees_to n g) (flat_map (all_trees_to n) gs)) ∙ fold_append with_one vs (map tree_value (all_trees_to n g)) (map tree_value (flat_map (all_trees_to n) gs)))

-- a file map is added by adding its trees one after the other
pub trees_fold_to : (n : ℕ) (vs : List Value) (f : FileMap Bytes) → with_tree_to n vs f ≡ fold with_one vs (map tree_value (all_trees_to n f))
trees_fold_to zero vs f = refl
trees_fold_to (suc n) vs f =
    ap (λ z. with_one z (tree_value f)) (subs_fold n (trees_fold_to n) (sub_maps f) vs)
    ∙ sym (ap (fold with_one vs) (map-append tree_value (flat_map (all_trees_to n) (sub_maps f)) (f ∷ [])) ∙ fold_append with_one vs (map tree_value (flat_map (all_trees_to n) (sub_maps f))) (tree_value f ∷ []))

-- adding a file map is adding its trees one by one
pub trees_fold : (vs : List Value) (f : FileMap Bytes) → with_tree vs f ≡ fold with_one vs (map tree_value (all_trees f))
trees_fold vs f = trees_fold_to (depth f) vs f

-- ---- each when its parts stand

ready_append : (xs ys vs : List Value) → AreReady vs xs → AreReady (fold with_one vs xs) ys → AreReady vs (xs ++ ys)
ready_append [] ys vs h g = g
ready_append (x ∷ xs) ys vs h g = (h.0, h.1, ready_append xs ys (with_one vs x) h.2 g)

ready_subs : (n : ℕ) → ((vs : List Value) (f : FileMap Bytes) → IsWhole vs → CanAdd n vs f → AreReady vs (map tree_value (all_trees_to n f))) → (gs : List (FileMap Bytes)) (vs : List Value) → IsWhole vs → AllByRecursion (CanAdd n vs) gs
    → AreReady vs (map tree_value (flat_map (all_trees_to n) gs))
ready_subs n one [] vs w k = tt
ready_subs n one (g ∷ gs) vs w k =
    let a = tree_added_to n vs g w k.0 in
    subst (AreReady vs) (sym (map-append tree_value (all_trees_to n g) (flat_map (all_trees_to n) gs)))
    (ready_append (map tree_value (all_trees_to n g)) (map tree_value (flat_map (all_trees_to n) gs)) vs (one vs g w k.0)
    (subst (λ z. AreReady z (map tree_value (flat_map (all_trees_to n) gs))) (trees_fold_to n vs g) (ready_subs n one gs (with_tree_to n vs g) a.whole (can_later n vs (with_tree_to n vs g) (keeps vs (tree_value g) (with_tree_to n vs g) a) gs k.1))))

ready_to : (n : ℕ) (vs : List Value) (f : FileMap Bytes) → IsWhole vs → CanAdd n vs f → AreReady vs (map tree_value (all_trees_to n f))
ready_to zero vs f w k = (
  is_true _ k.content,
  all_join (IsIn vs) (blobs_of f) (map tree_value (sub_maps f)) k.blobs (subst (λ g. AllByRecursion (IsIn vs) (map tree_value (sub_maps g))) (sym (empty_of f k.deep (paths_of f k.content))) tt),
  tt,
)
ready_to (suc n) vs f w k =
    let below = all_added n (tree_added_to n) (sub_maps f) vs w (subs_can n vs f k.deep k.content k.blobs (first_components f)) in
    let ws = fold (with_tree_to n) vs (sub_maps f) in
    subst (AreReady vs) (sym (map-append tree_value (flat_map (all_trees_to n) (sub_maps f)) (f ∷ [])))
    (ready_append (map tree_value (flat_map (all_trees_to n) (sub_maps f))) (tree_value f ∷ []) vs
    (ready_subs n (ready_to n) (sub_maps f) vs w (subs_can n vs f k.deep k.content k.blobs (first_components f)))
    (subst (λ z. AreReady z (tree_value f ∷ [])) (subs_fold n (trees_fold_to n) (sub_maps f) vs)
    (is_true _ k.content, all_join (IsIn ws) (blobs_of f) (map tree_value (sub_maps f)) (all_keep vs ws (keeps_all vs (sub_maps f) ws below) (blobs_of f) k.blobs) below.have, tt)))

-- the trees of a file map whose bytes stand can be added one after the other
pub trees_ready : (vs : List Value) (f : FileMap Bytes) → IsWhole vs → T (is_content f) → AllByRecursion (IsIn vs) (blobs_of f) → AreReady vs (map tree_value (all_trees f))
trees_ready vs f w c b = ready_to (depth f) vs f w (record { deep = omega arith; content = c; blobs = b })

-- ---- what is held isn't added again

held_one : (vs : List Value) (v : Value) → IsIn vs v → with_one vs v ≡ vs
held_one vs v i = ap (λ b. cond b vs (vs ++ v ∷ [])) (is_is_in vs v i)

held_subs : (n : ℕ) (vs : List Value) → ((f : FileMap Bytes) → IsIn vs (tree_value f) → with_tree_to n vs f ≡ vs) → (gs : List (FileMap Bytes)) → AllByRecursion (IsIn vs) (map tree_value gs) → fold (with_tree_to n) vs gs ≡ vs
held_subs n vs one [] h = refl
held_subs n vs one (g ∷ gs) h = ap (λ z. fold (with_tree_to n) z gs) (one g h.0) ∙ held_subs n vs one gs h.1

held_to : (n : ℕ) (vs : List Value) → IsWhole vs → (f : FileMap Bytes) → IsIn vs (tree_value f) → with_tree_to n vs f ≡ vs
held_to zero vs w f i = held_one vs (tree_value f) i
held_to (suc n) vs w f i =
    ap (λ z. with_one z (tree_value f)) (held_subs n vs (held_to n vs w) (sub_maps f) (all_right (IsIn vs) (blobs_of f) (map tree_value (sub_maps f)) (parts_in vs (tree_value f) w i)))
    ∙ held_one vs (tree_value f) i

-- a file map that is held isn't added again
pub tree_held : (vs : List Value) → IsWhole vs → (f : FileMap Bytes) → IsIn vs (tree_value f) → with_tree vs f ≡ vs
tree_held vs w f i = held_to (depth f) vs w f i

-- where the parts of a value stand, the value alone is added
pub alone_added : (vs : List Value) → IsWhole vs → (v : Value) → AllByRecursion (IsIn vs) (parts v) → ((f : FileMap Bytes) → v ≡ tree_value f → ⊥) → with_value vs v ≡ with_one vs v
alone_added vs w (blob_value x) h n = refl
alone_added vs w (tree_value f) h n = absurd (n f refl)
alone_added vs w (commit_value c) h n = ap (λ z. with_one z (commit_value c)) (tree_held vs w (files_of c) h.0)
alone_added vs w (tag_value t) h n = refl

-- ---- by names

module _ (name : Kind → Bytes → Bytes) where
  subs_named_on : (f : FileMap Bytes) (cs : List Bytes) → map (λ c. sub_map (named_map name f) (c ∷ [])) (filter (λ c. is_none (file_at (named_map name f) (c ∷ []))) cs) ≡ map (named_map name) (map (λ c. sub_map f (c ∷ [])) (filter (λ c. is_none (file_at f (c ∷ []))) cs))
  subs_named_on f [] = refl
  subs_named_on f (c ∷ cs) =
      ap (λ b. map (λ c. sub_map (named_map name f) (c ∷ [])) (cond b (c ∷ filter (λ c. is_none (file_at (named_map name f) (c ∷ []))) cs) (filter (λ c. is_none (file_at (named_map name f) (c ∷ []))) cs))) (ap is_none (at_named name f (c ∷ [])) ∙ none_of (file_at f (c ∷ [])))
      ∙ (elim (is_none (file_at f (c ∷ []))) as (λ b. map (λ c. sub_map (named_map name f) (c ∷ [])) (cond b (c ∷ filter (λ c. is_none (file_at (named_map name f) (c ∷ []))) cs) (filter (λ c. is_none (file_at (named_map name f) (c ∷ []))) cs)) ≡ map (named_map name) (map (λ c. sub_map f (c ∷ [])) (cond b (c ∷ filter (λ c. is_none (file_at f (c ∷ []))) cs) (filter (λ c. is_none (file_at f (c ∷ []))) cs)))) [
        | true ↦ λ i. sub_named name f c i ∷ subs_named_on f cs i
        | false ↦ subs_named_on f cs
      ])
    where
      none_of : (o : Option (Leaf Bytes)) → is_none (option_map (λ (x : Leaf Bytes). let y : Leaf Bytes = (x.0, content_name name x.0 x.1) in y) o) ≡ is_none o
      none_of None = refl
      none_of (Some x) = refl

  subs_named : (f : FileMap Bytes) → sub_maps (named_map name f) ≡ map (named_map name) (sub_maps f)
  subs_named f = ap (λ cs. map (λ c. sub_map (named_map name f) (c ∷ [])) (filter (λ c. is_none (file_at (named_map name f) (c ∷ []))) cs)) (firsts_named name f) ∙ subs_named_on f (first_components f)

  depth_named : (f : FileMap Bytes) → depth (named_map name f) ≡ depth f
  depth_named [] = refl
  depth_named (e ∷ es) = ap (max (length e.0)) (depth_named es)

  trees_named_subs : (n : ℕ) → ((f : FileMap Bytes) → all_trees_to n (named_map name f) ≡ map (named_map name) (all_trees_to n f)) → (gs : List (FileMap Bytes)) → flat_map (all_trees_to n) (map (named_map name) gs) ≡ map (named_map name) (flat_map (all_trees_to n) gs)
  trees_named_subs n one [] = refl
  trees_named_subs n one (g ∷ gs) = (λ i. one g i ++ trees_named_subs n one gs i) ∙ sym (map-append (named_map name) (all_trees_to n g) (flat_map (all_trees_to n) gs))

  trees_named_to : (n : ℕ) (f : FileMap Bytes) → all_trees_to n (named_map name f) ≡ map (named_map name) (all_trees_to n f)
  trees_named_to zero f = refl
  trees_named_to (suc n) f =
      ap (λ z. flat_map (all_trees_to n) z ++ named_map name f ∷ []) (subs_named f)
      ∙ ap (λ z. z ++ named_map name f ∷ []) (trees_named_subs n (trees_named_to n) (sub_maps f))
      ∙ sym (map-append (named_map name) (flat_map (all_trees_to n) (sub_maps f)) (f ∷ []))

  records_named : (fs : List (FileMap Bytes)) → map (tree_record name) (map (named_map name) fs) ≡ map (record_of name) (map tree_value fs)
  records_named [] = refl
  records_named (f ∷ fs) = ap (λ z. record_of name (tree_value f) ∷ z) (records_named fs)

  -- the records of a map of names are those of its trees
  pub trees_named : (f : FileMap Bytes) → tree_records name (named_map name f) ≡ map (record_of name) (map tree_value (all_trees f))
  trees_named f =
      ap (map (tree_record name)) (ap (λ n. all_trees_to n (named_map name f)) (depth_named f) ∙ trees_named_to (depth f) f) ∙ records_named (all_trees f)
