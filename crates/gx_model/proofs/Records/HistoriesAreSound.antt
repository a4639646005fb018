-- Whatever stands for a history is sound.
use Rattle.std.proofs.Common.{◌≡◌, true, false, cond, refl, sym, ap, subst, ◌∙◌, List, [], ◌∷◌, ◌++◌, drop, map, Option, None, Some, inl, inr}
use Rattle.std.specs.Prelude.{T, ◌&&◌, ◌⊎◌, ◌≢◌, is_none, is_some, IfSome, IsTrue}
use Rattle.std.specs.List.{list_all, filter, cons_option, AllByRecursion}
use Rattle.std.specs.Option.{option_map}
use Rattle.std.specs.Bool.{passes}
use Rattle.std.specs.Ordering.{nat_cmp}
use Rattle.std.specs.Cmp.Lexicographic.{slice_cmp}
use Rattle.std.specs.FinMap.Entries.{is_sorted}
use Rattle.std.proofs.lemmas.List.{map-append}
use Rattle.gx_model.specs.declared.objects.Kind.{Kind}
use Rattle.gx_model.specs.declared.objects.Kind.TheVariants as kind
use Rattle.gx_model.specs.declared.objects.Mode.{Mode}
use Rattle.gx_model.specs.declared.objects.Mode.TheVariants.{File, Exec, Link, Gitlink, Dir}
use Rattle.gx_model.specs.Texts.{Bytes, same_bytes}
use Rattle.gx_model.specs.Texts.Paths.{Path, same_path, is_short, is_file_path}
use Rattle.gx_model.specs.Histories.Files.{FileMap, Leaf, first_component, first_components, with_first, file_at, sub_map, under, are_file_paths}
use Rattle.gx_model.specs.Histories.Values.{commit, Commits, none, more, list_of, Value, blob_value, tree_value, commit_value, tag_value, blob_of, blobs_of, sub_maps, parts, is_proper, is_content, is_leaf}
use Rattle.gx_model.specs.Texts.RefNames.{is_ref_name}
use Rattle.gx_model.specs.Objects.{IsNamer, tree_text, is_name}
use Rattle.gx_model.specs.Records.{node, named_map, tree_body, tree_name, content_name, kind_of, body_of, name_of, commit_body, names_of}
use Rattle.gx_model.specs.Histories.{Records, AreDistinct, IsIn, IsClosedAfter, History, Target, at_commit, at_tag, value_at, IsRefOf, record_of, StandsFor}
use Rattle.gx_model.specs.Histories.{IsWhole}
use Rattle.gx_model.specs.Records.Sound.{AnyByRecursion, Holds, IsHeldAs, IsLinked, IsLinkedAfter, HasShortPaths, IsTarget, IsSound}
use Rattle.gx_model.proofs.Texts.PathTests.{both, first, second, is_true, is_same, path_is, all_append}
use Rattle.gx_model.proofs.ObjectTexts.OneTree.{leaf_named, node_entry, spelling, leaves, all_left, all_right, all_unmap, all_unfilter}
use Rattle.gx_model.proofs.ObjectTexts.EntryTexts.{starts_some}
use Rattle.gx_model.proofs.Records.OneHistory.{names_of_records}
use Rattle.gx_model.proofs.ObjectTexts.BodiesReadBack.{entries_read}
use Rattle.gx_model.proofs.ObjectTexts.RebuiltValues.{has_some}
use Rattle.gx_model.proofs.Records.LinkedValues.{proper_in, holds}
use Rattle.gx_model.proofs.ObjectTexts.TreePaths.{entries_of, text_of_tree, name_is_name, content_parts, path_held, pick}
use Rattle.gx_model.proofs.Records.HistoriesExist.{tag_text_is, keys_sorted, keys_named}

-- ---- a directory has something below it

in_or : (c d : Bytes) (ds : List Bytes) → AnyByRecursion (λ x. x ≡ c) (with_first d ds) → (d ≡ c) ⊎ AnyByRecursion (λ x. x ≡ c) ds
in_or c d [] h = elim h [ inl e ↦ inl e | inr k ↦ absurd k ]
in_or c d (e ∷ ds) h = elim (same_bytes d e) as (λ b. AnyByRecursion (λ x. x ≡ c) (cond b (e ∷ ds) (d ∷ e ∷ ds)) → (d ≡ c) ⊎ AnyByRecursion (λ x. x ≡ c) (e ∷ ds)) [ true ↦ λ k. inr k | false ↦ λ k. k ] h

abbrev off_first : FileMap Bytes → FileMap Bytes
off_first es = map (λ e. (drop 1 e.0, e.1)) es

-- below a first component is something
pub sub_some : (c : Bytes) (f : FileMap Bytes) → T (are_file_paths f) → AnyByRecursion (λ x. x ≡ c) (first_components f) → T (has_some (sub_map f (c ∷ [])))
sub_some c [] h s = absurd s
sub_some c (e ∷ es) h s = by e.0 (first _ _ h) (sub_some c es (second (is_file_path e.0) (are_file_paths es) h)) (in_or c (first_component e.0) (first_components es) s)
  where
    by : (q : Path) → T (is_file_path q) → (AnyByRecursion (λ x. x ≡ c) (first_components es) → T (has_some (sub_map es (c ∷ [])))) → (first_component q ≡ c) ⊎ AnyByRecursion (λ x. x ≡ c) (first_components es) → T (has_some (sub_map ((q, e.1) ∷ es) (c ∷ [])))
    by [] k rest o = absurd k
    by (d ∷ q) k rest o =
        elim (same_bytes c d) as (λ b. same_bytes c d ≡ b → T (has_some (off_first (cond (b && true) ((d ∷ q, e.1) ∷ under (c ∷ []) es) (under (c ∷ []) es))))) [
          | true ↦ λ i. tt
          | false ↦ λ i. elim o [ inl j ↦ absurd (let l = is_true _ (is_same c d (sym j)) in let m = sym i ∙ l in (cc)) | inr j ↦ rest j ]
        ] refl

short_of : (p : Path) → T (is_file_path p) → T (is_short p)
short_of [] h = absurd h
short_of (c ∷ p) h = second _ (is_short (c ∷ p)) h

-- what holds a file is a path of the map
pub short_path : (p : Path) (f : FileMap Bytes) → T (are_file_paths f) → is_some (file_at f p) ≡ true → T (is_short p)
short_path p [] h s = absurd (cc)
short_path p (e ∷ es) h s =
    elim (same_path p e.0) as (λ b. same_path p e.0 ≡ b → is_some (cond b (Some e.1) (file_at es p)) ≡ true → T (is_short p)) [
      | true ↦ λ k i. subst (λ q. T (is_short q)) (sym (path_is p e.0 (passes _ k))) (short_of e.0 (first _ _ h))
      | false ↦ λ k i. short_path p es (second (is_file_path e.0) (are_file_paths es) h) i
    ] refl s

module _ (Known : Value → Type 0) where
  -- a file that is no gitlink has known bytes
  abbrev pub IsKnown : Leaf Bytes → Type 0
  IsKnown x = IfSome (blob_of x.0 x.1) Known

  -- the file at a path has known bytes
  pub file_known : (f : FileMap Bytes) (p : Path) → AllByRecursion Known (blobs_of f) → IfSome (file_at f p) IsKnown
  file_known [] p h = tt
  file_known (e ∷ es) p h =
      let both_parts = by (blob_of e.1.0 e.1.1) (blobs_of es) h in
      elim (same_path p e.0) as (λ b. IfSome (cond b (Some e.1) (file_at es p)) IsKnown) [ true ↦ both_parts.0 | false ↦ file_known es p both_parts.1 ]
    where
      by : (o : Option Value) (vs : List Value) → AllByRecursion Known (cons_option o vs) → IfSome o Known × AllByRecursion Known vs
      by None vs k = (tt, k)
      by (Some v) vs k = (k.0, k.1)

  -- the sub-maps at directories are known
  pub subs_known : (f : FileMap Bytes) → AllByRecursion Known (parts (tree_value f)) → AllByRecursion (λ c. is_none (file_at f (c ∷ [])) ≡ true → Known (tree_value (sub_map f (c ∷ [])))) (first_components f)
  subs_known f h =
      all_unfilter (λ c. Known (tree_value (sub_map f (c ∷ [])))) (λ c. is_none (file_at f (c ∷ []))) (first_components f)
      (all_unmap (λ g. Known (tree_value g)) (λ c. sub_map f (c ∷ [])) (filter (λ c. is_none (file_at f (c ∷ []))) (first_components f))
      (all_unmap Known tree_value (sub_maps f) (all_right Known (blobs_of f) (map tree_value (sub_maps f)) h)))

module _ (name : Kind → Bytes → Bytes) (namer : IsNamer name) where
  body_some : (f : FileMap Bytes) → T (is_content f) → T (has_some f) → tree_body name (named_map name f) ≢ []
  body_some f t h e = entries_some (first_components f) (firsts_some f h) (sym (ap tree_text (spelling name namer f)) ∙ e)
    where
      abbrev_some : List Bytes → Type 0
      abbrev_some cs = cs ≢ []

      firsts_some : (f : FileMap Bytes) → T (has_some f) → first_components f ≢ []
      firsts_some [] h k = h
      firsts_some (e ∷ es) h k = put_some (first_component e.0) (first_components es) k
        where
          put_some : (c : Bytes) (ds : List Bytes) → with_first c ds ≢ []
          put_some c [] i = (cc)
          put_some c (d ∷ ds) i = elim (same_bytes c d) as (λ b. cond b (d ∷ ds) (c ∷ d ∷ ds) ≡ [] → ⊥) [ true ↦ λ j. (cc) | false ↦ λ j. (cc) ] i

      entries_some : (cs : List Bytes) → cs ≢ [] → tree_text (map (node_entry name namer f) cs) ≡ [] → ⊥
      entries_some [] n k = n refl
      entries_some (c ∷ cs) n k = starts_some (node_entry name namer f c).mode _ _ k

  module _ (vs : List Value) where
    leaf_held : (m : Mode) (b : Bytes) → T (is_leaf m b) → IsKnown (IsIn vs) (m, b) → IsHeldAs (map (record_of name) vs) m (content_name name m b)
    leaf_held File b l k = holds name _ vs (blob_value b) k (refl, refl)
    leaf_held Exec b l k = holds name _ vs (blob_value b) k (refl, refl)
    leaf_held Link b l k = holds name _ vs (blob_value b) k (refl, refl)
    leaf_held Gitlink b l k = tt
    leaf_held Dir b l k = absurd l

    node_held : (o : Option (Leaf Bytes)) (g : FileMap Bytes) → IfSome o (λ x. T (is_leaf x.0 x.1)) → IfSome o (IsKnown (IsIn vs)) → (is_none o ≡ true → IsIn vs (tree_value g) × T (has_some g) × T (is_content g))
        → IsHeldAs (map (record_of name) vs) (node name (option_map (leaf_named name namer) o) (tree_name name g)).0 (node name (option_map (leaf_named name namer) o) (tree_name name g)).1
    node_held None g l k d = let r = d refl in holds name (λ r. (r.kind ≡ kind.Tree) × (r.name ≡ tree_name name g) × (r.body ≢ [])) vs (tree_value g) r.0 (refl, refl, body_some g r.2 r.1)
    node_held (Some x) g l k d = leaf_held x.0 x.1 l k

    nodes_held : (f : FileMap Bytes) → T (is_content f) → T (list_all is_proper vs) → AllByRecursion (IsIn vs) (blobs_of f) → (cs : List Bytes) → ((c : Bytes) → AnyByRecursion (λ x. x ≡ c) cs → AnyByRecursion (λ x. x ≡ c) (first_components f))
        → AllByRecursion (λ c. is_none (file_at f (c ∷ [])) ≡ true → IsIn vs (tree_value (sub_map f (c ∷ [])))) (first_components f)
        → AllByRecursion (λ e. IsHeldAs (map (record_of name) vs) e.mode e.name) (map (node_entry name namer f) cs)
    nodes_held f t p b [] i d = tt
    nodes_held f t p b (c ∷ cs) i d = (
      node_held (file_at f (c ∷ [])) (sub_map f (c ∷ [])) (leaves name namer f (c ∷ []) t) (file_known (IsIn vs) f (c ∷ []) b)
          (λ n. let k = pick (λ c. is_none (file_at f (c ∷ [])) ≡ true → IsIn vs (tree_value (sub_map f (c ∷ [])))) c (first_components f) d (i c (inl refl)) n in (k, sub_some c f (content_parts f t).paths (i c (inl refl)), proper_in vs (tree_value (sub_map f (c ∷ []))) p k)),
      nodes_held f t p b cs (λ x s. i x (inr s)) d,
    )

    parents_held : (ps : Commits) → AllByRecursion (IsIn vs) (map commit_value (list_of ps)) → AllByRecursion (Holds (map (record_of name) vs) kind.Commit) (names_of name ps)
    parents_held none h = tt
    parents_held (more c cs) h = (holds name _ vs (commit_value c) h.0 (refl, refl), parents_held cs h.1)

    parents_named : (ps : Commits) → T (list_all is_name (names_of name ps))
    parents_named none = tt
    parents_named (more c cs) = both _ _ (name_is_name name namer kind.Commit (commit_body name c)) (parents_named cs)

    value_linked : (v : Value) → T (is_proper v) → T (list_all is_proper vs) → AllByRecursion (IsIn vs) (parts v) → IsLinked (map (record_of name) vs) (kind_of name v) (body_of name v)
    value_linked (blob_value x) p q h = tt
    value_linked (tree_value f) p q h = (
      entries_of name namer f,
      text_of_tree name namer f p,
      subst (AllByRecursion (λ e. IsHeldAs (map (record_of name) vs) e.mode e.name)) (sym (spelling name namer f))
          (nodes_held f p q (all_left (IsIn vs) (blobs_of f) (map tree_value (sub_maps f)) h) (first_components f) (λ c s. s) (subs_known (IsIn vs) f h)),
    )
    value_linked (commit_value (commit f ps t)) p q h = (
      record { tree = tree_name name f; parents = names_of name ps; text = t },
      (refl, is_true _ (name_is_name name namer kind.Tree _), is_true _ (parents_named ps), is_true _ (second (is_content f) _ p)),
      holds name _ vs (tree_value f) h.0 (refl, refl),
      parents_held ps h.1,
    )
    value_linked (tag_value t) p q h =
        (record { object = name kind.Commit (commit_body name t.target); name = t.name; tagger = t.tagger; message = t.message }, tag_text_is name namer t p, holds name _ vs (commit_value t.target) h.0 (refl, refl))

  linked_all : (before vs : List Value) → IsClosedAfter before vs → T (list_all is_proper before) → T (list_all is_proper vs) → IsLinkedAfter (map (record_of name) before) (map (record_of name) vs)
  linked_all before [] c q p = tt
  linked_all before (v ∷ vs) c q p = (
    value_linked before v (first _ _ p) q c.1,
    subst (λ z. IsLinkedAfter z (map (record_of name) vs)) (map-append (record_of name) before (v ∷ []))
        (linked_all (before ++ v ∷ []) vs c.2 (all_append is_proper before (v ∷ []) q (both (is_proper v) true (first _ _ p) tt)) (second (is_proper v) _ p)),
  )

  named_all : (vs : List Value) → AllByRecursion (λ x. x.name ≡ name x.kind x.body) (map (record_of name) vs)
  named_all [] = tt
  named_all (v ∷ vs) = (refl, named_all vs)

  tree_short : (vs : List Value) → IsWhole vs → AreDistinct (map (name_of name) vs) → (v : Value) → IsIn vs v → HasShortPaths (map (record_of name) vs) (record_of name v)
  tree_short vs w d (blob_value x) i es p k t h = absurd (cc)
  tree_short vs w d (tree_value f) i es p k t h =
      let c : T (is_content f) = proper_in vs (tree_value f) (passes _ w.proper) i in
      let e : es ≡ entries_of name namer f = sym (entries_read es _ t) ∙ entries_read (entries_of name namer f) _ (text_of_tree name namer f c) in
      is_true _ (short_path p f (content_parts f c).paths (path_held name namer vs w d es p h f i e))
  tree_short vs w d (commit_value x) i es p k t h = absurd (cc)
  tree_short vs w d (tag_value x) i es p k t h = absurd (cc)

  short_all : (vs us : List Value) → IsWhole vs → AreDistinct (map (name_of name) vs) → ((u : Value) → IsIn us u → IsIn vs u) → AllByRecursion (HasShortPaths (map (record_of name) vs)) (map (record_of name) us)
  short_all vs [] w d i = tt
  short_all vs (u ∷ us) w d i = (tree_short vs w d u (i u (inl refl)), short_all vs us w d (λ x j. i x (inr j)))

  target_held : (vs : List Value) → T (list_all is_proper vs) → (n : Bytes) (t : Target) → IsIn vs (value_at t) → IsRefOf n t → IsTarget (map (record_of name) vs) n (name_of name (value_at t))
  target_held vs p n (at_commit c) i o = inl (holds name _ vs (commit_value c) i (refl, refl))
  target_held vs p n (at_tag t) i o =
      inr (holds name _ vs (tag_value t) i (refl, refl, (record { object = name kind.Commit (commit_body name t.target); name = t.name; tagger = t.tagger; message = t.message }, tag_text_is name namer t (proper_in vs (tag_value t) p i), o)))

  targets_held : (vs : List Value) → T (list_all is_proper vs) → (rs : List (Bytes × Target)) → AllByRecursion (λ r. IsIn vs (value_at r.1)) rs → AllByRecursion (λ r. IsRefOf r.0 r.1) rs
      → AllByRecursion (λ x. IsTarget (map (record_of name) vs) x.0 x.1) (map (λ (x : Bytes × Target). let q : Bytes × Bytes = (x.0, name_of name (value_at x.1)) in q) rs)
  targets_held vs p [] h o = tt
  targets_held vs p (r ∷ rs) h o = (target_held vs p r.0 r.1 h.0 o.0, targets_held vs p rs h.1 o.1)

  -- whatever stands for a history is sound
  pub sound : (r : Records) (h : History) → StandsFor name r h → IsSound name r
  sound r h s =
      let vs = h.values in
      let w : IsWhole vs = record { closed = s.history.closed; proper = s.history.proper } in
      let d : AreDistinct (map (name_of name) vs) = subst AreDistinct (ap (map (λ x. x.name)) s.records ∙ names_of_records name namer vs) s.distinct in
      let e = sym s.records in
      let q = sym s.refs in
      record {
        named = subst (AllByRecursion (λ x. x.name ≡ name x.kind x.body)) e (named_all vs);
        distinct = s.distinct;
        linked = subst (IsLinkedAfter []) e (linked_all [] vs s.history.closed tt (passes _ s.history.proper));
        paths = subst (λ z. AllByRecursion (HasShortPaths z) z) e (short_all vs vs w d (λ u i. i));
        sorted = subst (λ z. IsTrue (is_sorted (slice_cmp nat_cmp) z)) q (is_true _ (keys_sorted (λ (x : Bytes × Target). name_of name (value_at x.1)) h.refs (passes _ s.history.sorted)));
        ref_names = subst (λ z. IsTrue (list_all (λ x. is_ref_name x.0) z)) q (is_true _ (keys_named (λ (x : Bytes × Target). name_of name (value_at x.1)) is_ref_name h.refs (passes _ s.history.ref_names)));
        held = subst (AllByRecursion (λ x. IsTarget r.records x.0 x.1)) q (subst (λ z. AllByRecursion (λ x. IsTarget z x.0 x.1) (map (λ (x : Bytes × Target). let q : Bytes × Bytes = (x.0, name_of name (value_at x.1)) in q) h.refs)) e (targets_held vs (passes _ s.history.proper) h.refs s.history.held s.history.own));
      }
