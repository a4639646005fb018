-- The map of names of a file map's contents, its trees among the records, and their texts.
use Rattle.std.proofs.Common.{◌≡◌, ◌≢◌, ℕ, zero, suc, length, eq-eqb, refl, sym, ap, subst, ◌∙◌, List, [], ◌∷◌, map, Some}
use Rattle.std.specs.Prelude.{T, ◌&&◌, not, IsTrue}
use Rattle.std.specs.Bool.{passes}
use Rattle.std.specs.List.{AllByRecursion, flat_map, list_all}
use Rattle.std.specs.Ordering.{is_lt}
use Rattle.std.specs.FinMap.Entries.{below_all, is_sorted}
use Rattle.std.proofs.lemmas.List.{map-append}
use Rattle.gx_model.specs.declared.objects.Kind.{Kind}
use Rattle.gx_model.specs.declared.objects.Kind.TheVariants as kind
use Rattle.gx_model.specs.declared.objects.Mode.{Mode}
use Rattle.gx_model.specs.declared.objects.Mode.TheVariants.{File, Exec, Link, Gitlink, Dir}
use Rattle.gx_model.specs.Texts.{Bytes}
use Rattle.gx_model.specs.Texts.Paths.{Path, are_in_line, is_file_path, path_cmp}
use Rattle.gx_model.specs.Histories.Files.{FileMap, are_apart, are_file_paths, is_file_map}
use Rattle.gx_model.specs.Histories.Values.{Value, blobs_of, commit_value, files_of, is_content, is_leaf, sub_maps, tree_value}
use Rattle.gx_model.specs.Objects.{IsNamer, IsTreeText, is_name, unhex}
use Rattle.gx_model.specs.Records.{body_of, content_name, named_map, tree_body, tree_name}
use Rattle.gx_model.specs.Histories.{IsIn, IsWhole, Record, Records, record_of}
use Rattle.gx_model.specs.Records.HistoryOf.{commit_of_value, files_of_tree, history_of, value_of_name}
use Rattle.gx_model.specs.Records.Growth.{all_trees, all_trees_to, record_named}
use Rattle.gx_model.specs.Records.RecordFaults.{is_held}
use Rattle.gx_model.specs.Records.Sound.{IsSound}
use Rattle.gx_model.proofs.Texts.PathTests.{both, first, second, is_true}
use Rattle.gx_model.proofs.ObjectTexts.OneTree.{all_right, digits_of, forty, unhex_long}
use Rattle.gx_model.proofs.ObjectTexts.TreePaths.{content_in, entries_of, name_is_name, text_of_tree, unhex_bytes}
use Rattle.gx_model.proofs.Histories.AddedValues.{all_join}
use Rattle.gx_model.proofs.Records.LinkedValues.{parts_in, proper_in}
use Rattle.gx_model.proofs.Records.GrownTrees.{trees_named}
use Rattle.gx_model.proofs.Records.HeldNames.{value_found}
use Rattle.gx_model.specs.Objects.NameMaps.{IsHeldTree, IsNameMap}
use Rattle.gx_model.proofs.Records.GrownRecords.{distinct_of}
use Rattle.gx_model.proofs.Records.HistoriesExist.{stands}
use Rattle.gx_model.proofs.Records.HeldValues.{all_whole, commit_stands, tree_stands}

-- ---- names in place of contents keep a file map one

module _ (name : Kind → Bytes → Bytes) where
  paths_named : (f : FileMap Bytes) → T (are_file_paths f) → T (are_file_paths (named_map name f))
  paths_named [] h = tt
  paths_named (e ∷ es) h = both _ _ (first _ _ h) (paths_named es (second (is_file_path e.0) (are_file_paths es) h))

  line_named : (p : Path) (f : FileMap Bytes) → T (list_all (λ e. not (are_in_line p e.0)) f) → T (list_all (λ e. not (are_in_line p e.0)) (named_map name f))
  line_named p [] h = tt
  line_named p (e ∷ es) h = both _ _ (first _ _ h) (line_named p es (second (not (are_in_line p e.0)) _ h))

  apart_named : (f : FileMap Bytes) → T (are_apart f) → T (are_apart (named_map name f))
  apart_named [] h = tt
  apart_named (e ∷ es) h = both _ _ (line_named e.0 es (first _ _ h)) (apart_named es (second (list_all (λ f. not (are_in_line e.0 f.0)) es) _ h))

  below_named : (p : Path) (f : FileMap Bytes) → T (below_all path_cmp p f) → T (below_all path_cmp p (named_map name f))
  below_named p [] h = tt
  below_named p (e ∷ es) h = both _ _ (first _ _ h) (below_named p es (second (is_lt (path_cmp p e.0)) (below_all path_cmp p es) h))

  sorted_named : (f : FileMap Bytes) → T (is_sorted path_cmp f) → T (is_sorted path_cmp (named_map name f))
  sorted_named [] h = tt
  sorted_named (e ∷ es) h = both _ _ (below_named e.0 es (first _ _ h)) (sorted_named es (second (below_all path_cmp e.0 es) (is_sorted path_cmp es) h))

  file_map_named : (f : FileMap Bytes) → T (is_file_map f) → T (is_file_map (named_map name f))
  file_map_named f h =
      let a = first (are_file_paths f && are_apart f) (is_sorted path_cmp f) h in
      both _ _ (both _ _ (paths_named f (first (are_file_paths f) (are_apart f) a)) (apart_named f (second (are_file_paths f) (are_apart f) a))) (sorted_named f (second (are_file_paths f && are_apart f) (is_sorted path_cmp f) h))

  no_dir : (m : Mode) (x : Bytes) → T (is_leaf m x) → m ≢ Dir
  no_dir m x h e = subst (λ z. T (is_leaf z x)) e h

  modes_named : (f : FileMap Bytes) → T (list_all (λ e. is_leaf e.1.0 e.1.1) f) → AllByRecursion (λ e. e.1.0 ≢ Dir) (named_map name f)
  modes_named [] h = tt
  modes_named (e ∷ es) h = (no_dir e.1.0 e.1.1 (first _ _ h), modes_named es (second (is_leaf e.1.0 e.1.1) _ h))

module _ (name : Kind → Bytes → Bytes) (namer : IsNamer name) where
  -- the name of a file's content has 20 bytes
  pub leaf_is_name : (m : Mode) (b : Bytes) → T (is_leaf m b) → T (is_name (content_name name m b))
  leaf_is_name File b h = name_is_name name namer kind.Blob b
  leaf_is_name Exec b h = name_is_name name namer kind.Blob b
  leaf_is_name Link b h = name_is_name name namer kind.Blob b
  leaf_is_name Gitlink b h = both _ _ (passes _ (eq-eqb (length (unhex b)) 20 (unhex_long b 20 (forty b h)))) (unhex_bytes b (digits_of b h))
  leaf_is_name Dir b h = absurd h

  names_named : (f : FileMap Bytes) → T (list_all (λ e. is_leaf e.1.0 e.1.1) f) → T (list_all (λ e. is_name e.1.1) (named_map name f))
  names_named [] h = tt
  names_named (e ∷ es) h = both _ _ (leaf_is_name e.1.0 e.1.1 (first _ _ h)) (names_named es (second (is_leaf e.1.0 e.1.1) _ h))

  -- a map of names of contents
  pub name_map : (f : FileMap Bytes) → T (is_content f) → IsNameMap (named_map name f)
  name_map f h =
      let leaves = second (is_file_map f) _ h in
      record { file_map = is_true _ (file_map_named name f (first (is_file_map f) _ h)); files = modes_named name f leaves; names = is_true _ (names_named f leaves) }

-- ---- the trees of a file map stand with it

trees_below : (n : ℕ) (vs : List Value) → ((f : FileMap Bytes) → IsIn vs (tree_value f) → AllByRecursion (IsIn vs) (map tree_value (all_trees_to n f))) → (gs : List (FileMap Bytes)) → AllByRecursion (IsIn vs) (map tree_value gs)
    → AllByRecursion (IsIn vs) (map tree_value (flat_map (all_trees_to n) gs))
trees_below n vs one [] h = tt
trees_below n vs one (g ∷ gs) h =
    subst (AllByRecursion (IsIn vs)) (sym (map-append tree_value (all_trees_to n g) (flat_map (all_trees_to n) gs)))
    (all_join (IsIn vs) (map tree_value (all_trees_to n g)) (map tree_value (flat_map (all_trees_to n) gs)) (one g h.0) (trees_below n vs one gs h.1))

trees_stand : (n : ℕ) (vs : List Value) → IsWhole vs → (f : FileMap Bytes) → IsIn vs (tree_value f) → AllByRecursion (IsIn vs) (map tree_value (all_trees_to n f))
trees_stand zero vs w f i = (i, tt)
trees_stand (suc n) vs w f i =
    subst (AllByRecursion (IsIn vs)) (sym (map-append tree_value (flat_map (all_trees_to n) (sub_maps f)) (f ∷ [])))
    (all_join (IsIn vs) (map tree_value (flat_map (all_trees_to n) (sub_maps f))) (tree_value f ∷ [])
    (trees_below n vs (trees_stand n vs w) (sub_maps f) (all_right (IsIn vs) (blobs_of f) (map tree_value (sub_maps f)) (parts_in vs (tree_value f) w i))) (i, tt))

module _ (name : Kind → Bytes → Bytes) (namer : IsNamer name) (r : Records) (sound : IsSound name r) where
  records_held : (us : List Value) → AllByRecursion (IsIn (history_of r).values) us → AllByRecursion (λ (x : Record). record_named r.records x.name ≡ Some x) (map (record_of name) us)
  records_held [] h = tt
  records_held (u ∷ us) h = ((value_found name namer r sound u h.0).0, records_held us h.1)

  -- a file map of the history is held as a tree
  pub tree_is_held : (f : FileMap Bytes) → IsIn (history_of r).values (tree_value f) → IsHeldTree name r.records (tree_name name f) (named_map name f)
  tree_is_held f i =
      let w = all_whole name namer r sound in
      record {
        map = name_map name namer f (proper_in (history_of r).values (tree_value f) (passes _ w.proper) i);
        named = refl;
        held = subst (AllByRecursion (λ (x : Record). record_named r.records x.name ≡ Some x)) (sym (trees_named name f)) (records_held (map tree_value (all_trees f)) (trees_stand _ (history_of r).values w f i));
      }

  -- and so are the files of a held commit
  pub files_are_held : (n : Bytes) → IsTrue (is_held r.records kind.Commit n) → IsHeldTree name r.records (tree_name name (files_of (commit_of_value (value_of_name r.records n)))) (named_map name (files_of (commit_of_value (value_of_name r.records n))))
  files_are_held n h = tree_is_held (files_of (commit_of_value (value_of_name r.records n))) (parts_in (history_of r).values (commit_value (commit_of_value (value_of_name r.records n))) (all_whole name namer r sound) (commit_stands name namer r sound n h).1).0

module _ (name : Kind → Bytes → Bytes) (namer : IsNamer name) (r : Records) (sound : IsSound name r) where
  abbrev Files : Bytes → FileMap Bytes
  Files n = files_of_tree (value_of_name r.records n)

  pub content : (f : FileMap Bytes) → IsIn (history_of r).values (tree_value f) → T (is_content f)
  content f i = content_in name namer (history_of r).values (all_whole name namer r sound) (distinct_of name namer r (history_of r) (stands name namer r sound)) f i

  -- a held tree's body is the text of its entries
  pub tree_text_held : (n body : Bytes) → IsTrue (is_held r.records kind.Tree n) → body ≡ body_of name (value_of_name r.records n) → IsTreeText (entries_of name namer (Files n)) body
  tree_text_held n body h e =
      let s = tree_stands name namer r sound n h in
      let same : body ≡ tree_body name (named_map name (Files n)) = e ∙ ap (body_of name) s.0 in
      subst (IsTreeText (entries_of name namer (Files n))) (sym same) (text_of_tree name namer (Files n) (content (Files n) s.1))
