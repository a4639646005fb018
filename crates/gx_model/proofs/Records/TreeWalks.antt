-- Walking down tree records gives what the whole map has.
use Rattle.std.proofs.Common.{◌≡◌, Bool, true, false, cond, refl, sym, ap, subst, ◌∙◌, List, [], ◌∷◌, drop, length, map, Option, None, Some, inl, inr}
use Rattle.std.specs.Prelude.{T, ◌&&◌, ◌⊎◌, is_none, is_some}
use Rattle.std.specs.Option.{option_map}
use Rattle.std.specs.Bool.{passes}
use Rattle.gx_model.specs.declared.objects.Kind.{Kind}
use Rattle.gx_model.specs.Texts.{Bytes, same_bytes}
use Rattle.gx_model.specs.Texts.Paths.{Path, begins}
use Rattle.gx_model.specs.Histories.Files.{FileMap, Leaf, first_component, first_components, with_first, file_at, sub_map, under}
use Rattle.gx_model.specs.Histories.Values.{Value, tree_value, is_content}
use Rattle.gx_model.specs.Objects.{IsNamer, is_dir}
use Rattle.gx_model.specs.Records.{node, named_map, content_name, tree_name, tree_body, body_of, name_of}
use Rattle.gx_model.specs.Histories.{Record, Records, AreDistinct, IsIn, record_of}
use Rattle.gx_model.specs.Histories.{IsWhole}
use Rattle.gx_model.specs.Records.Sound.{AnyByRecursion}
use Rattle.gx_model.specs.Records.HistoryOf.{entries_in}
use Rattle.gx_model.specs.Records.Walks.{entry_at, entries_named, place_at_end, walked, walked_from, place_of, place_in, entry_for}
use Rattle.gx_model.proofs.Texts.PathTests.{is_true, is_same, same_is}
use Rattle.gx_model.proofs.ObjectTexts.OneTree.{spelling, node_entry, leaf_named, only_file}
use Rattle.gx_model.proofs.Records.OneHistory.{told_by_name, no_other}
use Rattle.gx_model.proofs.ObjectTexts.BodiesReadBack.{entries_read}
use Rattle.gx_model.proofs.ObjectTexts.CanonicalTrees.{no_dir}
use Rattle.gx_model.proofs.ObjectTexts.RebuiltValues.{has_some}
use Rattle.gx_model.proofs.ObjectTexts.TreePaths.{file_sub, first_in, entries_of, text_of_tree, content_parts, content_in, sub_in, leaf_at}
use Rattle.gx_model.proofs.Records.HistoriesAreSound.{sub_some}
use Rattle.gx_model.proofs.Records.GrownRecords.{Lookup, looked_up, whole_of, distinct_of}
use Rattle.gx_model.specs.Records.Sound.{IsSound}
use Rattle.gx_model.specs.Records.HistoryOf.{history_of}
use Rattle.gx_model.proofs.Records.HistoriesExist.{stands}

abbrev off : List (Path × Leaf Bytes) → Path → List (Path × Leaf Bytes)
off es p = map (λ e. (drop (length p) e.0, e.1)) es

-- the sub-map at a path, from the sub-map at its first component
pub sub_sub : (c : Bytes) (p : Path) (f : FileMap Bytes) → sub_map f (c ∷ p) ≡ sub_map (sub_map f (c ∷ [])) p
sub_sub c p [] = refl
sub_sub c p (e ∷ es) = by e.0 (sub_sub c p es)
  where
    by : (q : Path) → sub_map es (c ∷ p) ≡ sub_map (sub_map es (c ∷ [])) p → sub_map ((q, e.1) ∷ es) (c ∷ p) ≡ sub_map (sub_map ((q, e.1) ∷ es) (c ∷ [])) p
    by [] r = r
    by (d ∷ q) r =
        elim (same_bytes c d) as (λ b. off (cond (b && begins p q) ((d ∷ q, e.1) ∷ under (c ∷ p) es) (under (c ∷ p) es)) (c ∷ p) ≡ sub_map (off (cond (b && true) ((d ∷ q, e.1) ∷ under (c ∷ []) es) (under (c ∷ []) es)) (c ∷ [])) p) [
          | true ↦ (elim (begins p q) as (λ b. off (cond b ((d ∷ q, e.1) ∷ under (c ∷ p) es) (under (c ∷ p) es)) (c ∷ p) ≡ off (cond b ((q, e.1) ∷ under p (sub_map es (c ∷ []))) (under p (sub_map es (c ∷ [])))) p) [
            | true ↦ ap (λ fs. (drop (length p) q, e.1) ∷ fs) r
            | false ↦ r
          ])
          | false ↦ r
        ]

module _ (name : Kind → Bytes → Bytes) (namer : IsNamer name) where
  node_place : (c : Bytes) (o : Option (Leaf Bytes)) (g : FileMap Bytes) → (is_none o ≡ true → T (has_some g)) → Some (record { mode = (node name (option_map (leaf_named name namer) o) (tree_name name g)).0; component = c; name = (node name (option_map (leaf_named name namer) o) (tree_name name g)).1 }) ≡ entry_for name c (place_of name o g)
  node_place c (Some x) g h = refl
  node_place c None [] h = absurd (h refl)
  node_place c None (e ∷ es) h = refl

  nothing_at : (c : Bytes) (o : Option (Leaf Bytes)) (g : FileMap Bytes) → (is_some o ≡ true → ⊥) → (T (has_some g) → ⊥) → None ≡ entry_for name c (place_of name o g)
  nothing_at c (Some x) g h k = absurd (h refl)
  nothing_at c None [] h k = refl
  nothing_at c None (e ∷ es) h k = absurd (k tt)

  entry_among : (f : FileMap Bytes) (c : Bytes) (cs : List Bytes) → ((AnyByRecursion (λ x. x ≡ c) cs) × (entry_at (map (node_entry name namer f) cs) c ≡ Some (node_entry name namer f c))) ⊎ ((AnyByRecursion (λ x. x ≡ c) cs → ⊥) × (entry_at (map (node_entry name namer f) cs) c ≡ None))
  entry_among f c [] = inr (λ s. s, refl)
  entry_among f c (d ∷ ds) =
      elim (same_bytes c d) as (λ b. same_bytes c d ≡ b → ((AnyByRecursion (λ x. x ≡ c) (d ∷ ds)) × (cond b (Some (node_entry name namer f d)) (entry_at (map (node_entry name namer f) ds) c) ≡ Some (node_entry name namer f c))) ⊎ ((AnyByRecursion (λ x. x ≡ c) (d ∷ ds) → ⊥) × (cond b (Some (node_entry name namer f d)) (entry_at (map (node_entry name namer f) ds) c) ≡ None))) [
        | true ↦ λ k. inl (inl (sym (same_is c d (passes _ k))), ap (λ x. Some (node_entry name namer f x)) (sym (same_is c d (passes _ k))))
        | false ↦ λ k. elim (entry_among f c ds) [
          | inl r ↦ inl (inr r.0, r.1)
          | inr r ↦ inr (λ s. elim s [ inl e ↦ (let l = is_true _ (is_same c d (sym e)) in let j = sym l ∙ k in (cc)) | inr t ↦ r.0 t ], r.1)
        ]
      ] refl

  -- below a component is something only where it is a first component
  pub some_sub : (c : Bytes) (f : FileMap Bytes) → T (has_some (sub_map f (c ∷ []))) → AnyByRecursion (λ x. x ≡ c) (first_components f)
  some_sub c f h = from f h
    where
      put_in : (d : Bytes) (ds : List Bytes) → T (same_bytes c d) → AnyByRecursion (λ x. x ≡ c) (with_first d ds)
      put_in d [] k = inl (sym (same_is c d k))
      put_in d (e ∷ ds) k = elim (same_bytes d e) as (λ b. same_bytes d e ≡ b → AnyByRecursion (λ x. x ≡ c) (cond b (e ∷ ds) (d ∷ e ∷ ds))) [ true ↦ λ j. inl (sym (same_is d e (passes _ j)) ∙ sym (same_is c d k)) | false ↦ λ j. inl (sym (same_is c d k)) ] refl

      keep_in : (d : Bytes) (ds : List Bytes) → AnyByRecursion (λ x. x ≡ c) ds → AnyByRecursion (λ x. x ≡ c) (with_first d ds)
      keep_in d [] k = absurd k
      keep_in d (e ∷ ds) k = elim (same_bytes d e) as (λ b. AnyByRecursion (λ x. x ≡ c) (cond b (e ∷ ds) (d ∷ e ∷ ds))) [ true ↦ k | false ↦ inr k ]

      one : (e : Path × Leaf Bytes) (es : FileMap Bytes) (q : Path) → (T (has_some (sub_map es (c ∷ []))) → AnyByRecursion (λ x. x ≡ c) (first_components es)) → T (has_some (sub_map ((q, e.1) ∷ es) (c ∷ []))) → AnyByRecursion (λ x. x ≡ c) (with_first (first_component q) (first_components es))
      one e es [] r k = keep_in [] (first_components es) (r k)
      one e es (d ∷ q) r k =
          elim (same_bytes c d) as (λ b. same_bytes c d ≡ b → T (has_some (off (cond (b && true) ((d ∷ q, e.1) ∷ under (c ∷ []) es) (under (c ∷ []) es)) (c ∷ []))) → AnyByRecursion (λ x. x ≡ c) (with_first d (first_components es))) [
            | true ↦ λ j i. put_in d (first_components es) (passes _ j)
            | false ↦ λ j i. keep_in d (first_components es) (r i)
          ] refl k

      from : (f : FileMap Bytes) → T (has_some (sub_map f (c ∷ []))) → AnyByRecursion (λ x. x ≡ c) (first_components f)
      from [] k = absurd k
      from (e ∷ es) k = one e es e.0 (from es) k

  -- a tree has at a component what its file map has there
  pub entry_of : (f : FileMap Bytes) (c : Bytes) → T (is_content f) → entry_at (entries_of name namer f) c ≡ entry_for name c (place_in name f (c ∷ []))
  entry_of f c t =
      ap (λ es. entry_at es c) (spelling name namer f)
      ∙ elim (entry_among f c (first_components f)) [
        | inl r ↦ r.1 ∙ node_place c (file_at f (c ∷ [])) (sub_map f (c ∷ [])) (λ n. sub_some c f (content_parts f t).paths r.0)
        | inr r ↦ r.1 ∙ nothing_at c (file_at f (c ∷ [])) (sub_map f (c ∷ [])) (λ s. r.0 (first_in c [] f s)) (λ s. r.0 (some_sub c f s))
      ]

  module _ (vs : List Value) (whole : IsWhole vs) (distinct : AreDistinct (map (name_of name) vs)) where
    -- the entries of a held tree
    pub entries_held : (f : FileMap Bytes) → IsIn vs (tree_value f) → entries_named (map (record_of name) vs) (tree_name name f) ≡ entries_of name namer f
    entries_held f i = by (looked_up name namer vs (tree_name name f))
      where
        by : Lookup name namer vs (tree_name name f) → entries_named (map (record_of name) vs) (tree_name name f) ≡ entries_of name namer f
        by (inl r) = absurd (no_other name namer (tree_name name f) vs (tree_value f) r.0 i refl)
        by (inr r) =
            ap (λ (o : Option Record). elim o [ None ↦ [] | Some s ↦ entries_in s.body ]) r.4
            ∙ ap (λ u. entries_in (body_of name u)) (told_by_name name namer vs distinct r.0 (tree_value f) r.1 i r.2)
            ∙ entries_read (entries_of name namer f) (tree_body name (named_map name f)) (text_of_tree name namer f (content_in name namer vs whole distinct f i))

    nothing_below : (q : Path) → place_of name (file_at [] q) (sub_map [] q) ≡ None
    nothing_below q = refl

    -- a walk down the records of values gives what the whole map has
    pub walk : (p : Path) (f : FileMap Bytes) → IsIn vs (tree_value f) → walked (map (record_of name) vs) (tree_name name f) p ≡ place_in name f p
    walk [] f i = refl
    walk (c ∷ p) f i =
        let t = content_in name namer vs whole distinct f i in
        ap (λ es. walked_from (entry_at es c) p (λ m. walked (map (record_of name) vs) m p)) (entries_held f i)
        ∙ ap (λ o. walked_from o p (λ m. walked (map (record_of name) vs) m p)) (entry_of f c t)
        ∙ by p (file_at f (c ∷ [])) refl (sub_map f (c ∷ [])) refl (λ g j. walk p g j)
      where
        end : (p : Path) (x : Leaf Bytes) (b : Bool) → b ≡ false → cond b (walked (map (record_of name) vs) (content_name name x.0 x.1) p) (place_at_end p (x.0, content_name name x.0 x.1)) ≡ place_at_end p (x.0, content_name name x.0 x.1)
        end p x true e = absurd (cc)
        end p x false e = refl

        after_file : (p : Path) (x : Leaf Bytes) → sub_map f (c ∷ []) ≡ ([], x) ∷ [] → file_at f (c ∷ []) ≡ Some x → place_at_end p (x.0, content_name name x.0 x.1) ≡ place_in name f (c ∷ p)
        after_file [] x k e = ap (λ o. place_of name o (sub_map f (c ∷ []))) (sym e)
        after_file (d ∷ p) x k e =
            (λ i. place_of name (file_at (sym k i) (d ∷ p)) (sub_map (sym k i) (d ∷ p))) ∙ (λ i. place_of name (file_sub c (d ∷ p) f i) (sym (sub_sub c (d ∷ p) f) i))

        by : (p : Path) (o : Option (Leaf Bytes)) → file_at f (c ∷ []) ≡ o → (g : FileMap Bytes) → sub_map f (c ∷ []) ≡ g → ((g : FileMap Bytes) → IsIn vs (tree_value g) → walked (map (record_of name) vs) (tree_name name g) p ≡ place_in name g p)
            → walked_from (entry_for name c (place_of name o g)) p (λ m. walked (map (record_of name) vs) m p) ≡ place_in name f (c ∷ p)
        by p (Some x) e g k rec =
            end p x (is_dir x.0) (no_dir x.0 x.1 (leaf_at name namer f (c ∷ []) x (content_in name namer vs whole distinct f i) e))
            ∙ after_file p x (only_file c f x (content_parts f (content_in name namer vs whole distinct f i)).apart e) e
        by p None e [] k rec = (λ j. place_of name (file_at (sym k j) p) (sub_map (sym k j) p)) ∙ (λ j. place_of name (file_sub c p f j) (sym (sub_sub c p f) j))
        by [] None e (x ∷ xs) k rec = (λ j. place_of name (sym e j) (sym k j))
        by (d ∷ p) None e (x ∷ xs) k rec =
            let s : AnyByRecursion (λ y. y ≡ c) (first_components f) = some_sub c f (subst (λ g. T (has_some g)) (sym k) tt) in
            let j : IsIn vs (tree_value (x ∷ xs)) = subst (λ g. IsIn vs (tree_value g)) k (sub_in name namer vs whole distinct f c i s e) in
            rec (x ∷ xs) j
            ∙ (λ z. place_of name (file_at (sym k z) (d ∷ p)) (sub_map (sym k z) (d ∷ p))) ∙ (λ z. place_of name (file_sub c (d ∷ p) f z) (sym (sub_sub c (d ∷ p) f) z))

  -- a walk down the records of a sound repository gives what the whole map has
  pub walk_sound : (r : Records) → IsSound name r → (f : FileMap Bytes) → IsIn (history_of r).values (tree_value f) → (p : Path) → walked r.records (tree_name name f) p ≡ place_in name f p
  walk_sound r i f j p =
      let t = stands name namer r i in
      ap (λ rs. walked rs (tree_name name f) p) t.records ∙ walk (history_of r).values (whole_of name namer (history_of r) t.history) (distinct_of name namer r (history_of r) t) p f j
