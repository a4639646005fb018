-- The file map that canonical entries give, from what is at or below each of them.
use Rattle.std.proofs.Common.{◌≡◌, Bool, true, false, cond, refl, sym, ap, subst, ◌∙◌, List, [], ◌∷◌, ◌++◌, drop, map, Option, None, Some, append-nil}
use Rattle.std.specs.Prelude.{T, not, ◌&&◌, ◌||◌, is_none}
use Rattle.std.specs.List.{list_all, list_any, filter, flat_map, cons_option, AllByRecursion}
use Rattle.std.specs.Option.{option_map, option_or}
use Rattle.std.specs.Ordering.{is_lt}
use Rattle.std.specs.FinMap.Entries.{is_sorted, below_all}
use Rattle.std.specs.Bool.{passes}
use Rattle.std.proofs.lemmas.List.Elements.{filter-append}
use Rattle.gx_model.specs.declared.objects.Kind.{Kind}
use Rattle.gx_model.specs.Texts.{Bytes, byte_cmp, same_bytes}
use Rattle.gx_model.specs.Texts.Paths.{Path, same_path, path_cmp, begins, are_in_line, is_component}
use Rattle.gx_model.specs.Histories.Files.{FileMap, Leaf, first_components, with_first, file_at, sub_map, under, are_apart, are_file_paths}
use Rattle.gx_model.specs.Histories.Values.{Value, tree_value, blobs_of, blob_of, sub_maps, parts, is_leaf, is_content}
use Rattle.gx_model.specs.Objects.{IsNamer, Entry, entry_key, is_canonical, are_different, tree_text}
use Rattle.gx_model.specs.Records.{node, entry, entries, named_map, tree_name, tree_body}
use Rattle.gx_model.specs.Records.HistoryOf.{placed}
use Rattle.gx_model.proofs.Texts.PathTests.{both, first, second, all_append}
use Rattle.gx_model.proofs.Histories.PathOrder.{by_node, node_key}
use Rattle.gx_model.proofs.Histories.FileMapEdits.{Parts, of_parts, apart_moved}
use Rattle.gx_model.proofs.Histories.PathRuns.{flip, same_itself, as_false, other}
use Rattle.gx_model.proofs.ObjectTexts.OneTree.{spelling, node_entry, node_of, leaf_named}
use Rattle.gx_model.proofs.Histories.AddedValues.{all_join}

-- there is an entry
abbrev pub has_some : FileMap Bytes → Bool
has_some [] = false
has_some (e ∷ es) = true

abbrev off_first : FileMap Bytes → FileMap Bytes
off_first es = map (λ e. (drop 1 e.0, e.1)) es

-- ---- first components

again : (c : Bytes) (ds : List Bytes) → with_first c (with_first c ds) ≡ with_first c ds
again c [] = ap (λ b. cond b (c ∷ []) (c ∷ c ∷ [])) (same_itself c)
again c (d ∷ ds) =
    elim (same_bytes c d) as (λ b. same_bytes c d ≡ b → with_first c (cond b (d ∷ ds) (c ∷ d ∷ ds)) ≡ cond b (d ∷ ds) (c ∷ d ∷ ds)) [
      | true ↦ λ k. ap (λ b. cond b (d ∷ ds) (c ∷ d ∷ ds)) k
      | false ↦ λ k. ap (λ b. cond b (c ∷ d ∷ ds) (c ∷ c ∷ d ∷ ds)) (same_itself c)
    ] refl

firsts_run : (c : Bytes) (f rest : FileMap Bytes) → T (has_some f) → first_components (placed c f ++ rest) ≡ with_first c (first_components rest)
firsts_run c [] rest h = absurd h
firsts_run c (e ∷ []) rest h = refl
firsts_run c (e ∷ d ∷ es) rest h = ap (with_first c) (firsts_run c (d ∷ es) rest tt) ∙ again c (first_components rest)

new_first : (c : Bytes) (ds : List Bytes) → T (not (list_any (same_bytes c) ds)) → with_first c ds ≡ c ∷ ds
new_first c [] h = refl
new_first c (d ∷ ds) h = elim (same_bytes c d) as (λ b. T (not (b || list_any (same_bytes c) ds)) → cond b (d ∷ ds) (c ∷ d ∷ ds) ≡ c ∷ d ∷ ds) [ true ↦ λ k. absurd k | false ↦ λ k. refl ] h

head_other : (c d : Bytes) (ds : List Bytes) → T (not (list_any (same_bytes c) (d ∷ ds))) → T (not (same_bytes c d))
head_other c d ds h = elim (same_bytes c d) as (λ b. T (not (b || list_any (same_bytes c) ds)) → T (not b)) [ true ↦ λ k. k | false ↦ λ k. tt ] h

tail_other : (c d : Bytes) (ds : List Bytes) → T (not (list_any (same_bytes c) (d ∷ ds))) → T (not (list_any (same_bytes c) ds))
tail_other c d ds h = elim (same_bytes c d) as (λ b. T (not (b || list_any (same_bytes c) ds)) → T (not (list_any (same_bytes c) ds))) [ true ↦ λ k. absurd k | false ↦ λ k. k ] h

-- ---- sub-maps

off_append : (xs ys : FileMap Bytes) → off_first (xs ++ ys) ≡ off_first xs ++ off_first ys
off_append [] ys = refl
off_append (x ∷ xs) ys = ap (λ fs. (drop 1 x.0, x.1) ∷ fs) (off_append xs ys)

sub_append : (c : Bytes) (xs ys : FileMap Bytes) → sub_map (xs ++ ys) (c ∷ []) ≡ sub_map xs (c ∷ []) ++ sub_map ys (c ∷ [])
sub_append c xs ys = ap off_first (filter-append (λ (e : Path × Leaf Bytes). begins (c ∷ []) e.0) xs ys) ∙ off_append (under (c ∷ []) xs) (under (c ∷ []) ys)

sub_own : (c : Bytes) (f : FileMap Bytes) → sub_map (placed c f) (c ∷ []) ≡ f
sub_own c [] = refl
sub_own c (e ∷ es) =
    ap (λ b. off_first (cond (b && true) ((c ∷ e.0, e.1) ∷ under (c ∷ []) (placed c es)) (under (c ∷ []) (placed c es)))) (same_itself c) ∙ ap (λ fs. e ∷ fs) (sub_own c es)

sub_other : (c d : Bytes) (f : FileMap Bytes) → same_bytes c d ≡ false → sub_map (placed d f) (c ∷ []) ≡ []
sub_other c d [] h = refl
sub_other c d (e ∷ es) h =
    ap (λ b. off_first (cond (b && true) ((d ∷ e.0, e.1) ∷ under (c ∷ []) (placed d es)) (under (c ∷ []) (placed d es)))) h ∙ sub_other c d es h

-- ---- files

-- or else nothing adds nothing
or_none : (o : Option (Leaf Bytes)) → option_or o None ≡ o
or_none None = refl
or_none (Some x) = refl

-- what is found in two lists in a row is found in the first, or else in the second
pub at_append : (p : Path) (xs ys : FileMap Bytes) → file_at (xs ++ ys) p ≡ option_or (file_at xs p) (file_at ys p)
at_append p [] ys = refl
at_append p (x ∷ xs) ys =
    elim (same_path p x.0) as (λ b. cond b (Some x.1) (file_at (xs ++ ys) p) ≡ option_or (cond b (Some x.1) (file_at xs p)) (file_at ys p)) [ true ↦ refl | false ↦ at_append p xs ys ]

at_own : (c : Bytes) (f : FileMap Bytes) → file_at (placed c f) (c ∷ []) ≡ file_at f []
at_own c [] = refl
at_own c (e ∷ es) =
    ap (λ b. cond (b && same_path [] e.0) (Some e.1) (file_at (placed c es) (c ∷ []))) (same_itself c) ∙ ap (λ o. cond (same_path [] e.0) (Some e.1) o) (at_own c es)

at_other : (c d : Bytes) (f : FileMap Bytes) → same_bytes c d ≡ false → file_at (placed d f) (c ∷ []) ≡ None
at_other c d [] h = refl
at_other c d (e ∷ es) h = ap (λ b. cond (b && same_path [] e.0) (Some e.1) (file_at (placed d es) (c ∷ []))) h ∙ at_other c d es h

-- ---- apart and in order

apart_append : (xs ys : FileMap Bytes) → T (are_apart xs) → T (are_apart ys) → T (list_all (λ e. list_all (λ f. not (are_in_line e.0 f.0)) ys) xs) → T (are_apart (xs ++ ys))
apart_append [] ys a b h = b
apart_append (x ∷ xs) ys a b h =
    both _ _ (all_append (λ f. not (are_in_line x.0 f.0)) xs ys (first _ _ a) (first _ _ h))
    (apart_append xs ys (second (list_all (λ f. not (are_in_line x.0 f.0)) xs) (are_apart xs) a) b (second (list_all (λ f. not (are_in_line x.0 f.0)) ys) _ h))

below_append : (p : Path) (xs ys : FileMap Bytes) → T (below_all path_cmp p xs) → T (below_all path_cmp p ys) → T (below_all path_cmp p (xs ++ ys))
below_append p [] ys a b = b
below_append p (x ∷ xs) ys a b = both _ _ (first _ _ a) (below_append p xs ys (second (is_lt (path_cmp p x.0)) (below_all path_cmp p xs) a) b)

sorted_append : (xs ys : FileMap Bytes) → T (is_sorted path_cmp xs) → T (is_sorted path_cmp ys) → T (list_all (λ e. below_all path_cmp e.0 ys) xs) → T (is_sorted path_cmp (xs ++ ys))
sorted_append [] ys a b h = b
sorted_append (x ∷ xs) ys a b h =
    both _ _ (below_append x.0 xs ys (first _ _ a) (first _ _ h))
    (sorted_append xs ys (second (below_all path_cmp x.0 xs) (is_sorted path_cmp xs) a) b (second (below_all path_cmp x.0 ys) (list_all (λ e. below_all path_cmp e.0 ys) xs) h))

all_from_root : (f : FileMap Bytes) → T (list_all (λ e. begins [] e.0) f)
all_from_root [] = tt
all_from_root (e ∷ es) = both true _ tt (all_from_root es)

apart_placed : (c : Bytes) (f : FileMap Bytes) → T (are_apart f) → T (are_apart (placed c f))
apart_placed c f h = apart_moved [] (c ∷ []) f (all_from_root f) h

apart_cross : (c : Bytes) (p : Path) (d : Bytes) (f : FileMap Bytes) → same_bytes c d ≡ false → same_bytes d c ≡ false → T (list_all (λ x. not (are_in_line (c ∷ p) x.0)) (placed d f))
apart_cross c p d [] h k = tt
apart_cross c p d (e ∷ es) h k =
    both _ _ (subst (λ b. T (not ((b && begins p e.0) || (same_bytes d c && begins e.0 p)))) (sym h) (subst (λ b. T (not (b && begins e.0 p))) (sym k) tt)) (apart_cross c p d es h k)

below_cross : (c : Bytes) (p : Path) (k : Bytes) (d l : Bytes) (f : FileMap Bytes) → T (is_component c) → T (is_component d) → same_bytes c d ≡ false → node_key (c ∷ p) ≡ k → T (is_lt (byte_cmp k l))
    → AllByRecursion (λ q. node_key (d ∷ q.0) ≡ l) f → T (below_all path_cmp (c ∷ p) (placed d f))
below_cross c p k d l [] kc kd n e i h = tt
below_cross c p k d l (x ∷ xs) kc kd n e i h =
    both _ _ (subst (λ o. T (is_lt o)) (sym (by_node c d p x.0 kc kd (other c d n) ∙ (λ j. byte_cmp (e j) (h.0 j)))) i) (below_cross c p k d l xs kc kd n e i h.1)

-- ---- contents

-- a component before each path changes no bytes
pub blobs_placed : (c : Bytes) (f : FileMap Bytes) → blobs_of (placed c f) ≡ blobs_of f
blobs_placed c [] = refl
blobs_placed c (e ∷ es) = ap (cons_option (blob_of e.1.0 e.1.1)) (blobs_placed c es)

-- the bytes of two lists in a row
pub blobs_append : (xs ys : FileMap Bytes) → blobs_of (xs ++ ys) ≡ blobs_of xs ++ blobs_of ys
blobs_append [] ys = refl
blobs_append (e ∷ xs) ys = ap (cons_option (blob_of e.1.0 e.1.1)) (blobs_append xs ys) ∙ by (blob_of e.1.0 e.1.1)
  where
    by : (o : Option Value) → cons_option o (blobs_of xs ++ blobs_of ys) ≡ cons_option o (blobs_of xs) ++ blobs_of ys
    by None = refl
    by (Some v) = refl

leaves_placed : (c : Bytes) (f : FileMap Bytes) → T (list_all (λ e. is_leaf e.1.0 e.1.1) f) → T (list_all (λ e. is_leaf e.1.0 e.1.1) (placed c f))
leaves_placed c [] h = tt
leaves_placed c (e ∷ es) h = both _ _ (first _ _ h) (leaves_placed c es (second (is_leaf e.1.0 e.1.1) _ h))

module _ (g : Entry → FileMap Bytes) where
  -- the file map of some entries
  abbrev pub whole : List Entry → FileMap Bytes
  whole = flat_map (λ e. placed e.component (g e))

  -- what is at or below an entry
  pub record Fits (e : Entry) : Type 0 where
    pub some : T (has_some (g e))
    pub component : T (is_component e.component)
    pub keys : AllByRecursion (λ q. node_key (e.component ∷ q.0) ≡ entry_key e) (g e)
    pub paths : T (are_file_paths (placed e.component (g e)))
    pub apart : T (are_apart (g e))
    pub sorted : T (is_sorted path_cmp (placed e.component (g e)))

  abbrev components : List Entry → List Bytes
  components es = map (λ e. e.component) es

  abbrev entry_keys : List Entry → List (Bytes × Bytes)
  entry_keys es = map (λ e. (entry_key e, e.component)) es

  -- the first components of a map are those of its entries
  pub firsts_whole : (es : List Entry) → AllByRecursion Fits es → T (are_different (components es)) → first_components (whole es) ≡ components es
  firsts_whole [] h d = refl
  firsts_whole (e ∷ es) h d =
      firsts_run e.component (g e) (whole es) h.0.some
      ∙ ap (with_first e.component) (firsts_whole es h.1 (second (not (list_any (same_bytes e.component) (components es))) _ d))
      ∙ new_first e.component (components es) (first _ _ d)

  none_sub : (c : Bytes) (es : List Entry) → T (not (list_any (same_bytes c) (components es))) → sub_map (whole es) (c ∷ []) ≡ []
  none_sub c [] h = refl
  none_sub c (e ∷ es) h =
      sub_append c (placed e.component (g e)) (whole es)
      ∙ (λ i. sub_other c e.component (g e) (as_false _ (head_other c e.component (components es) h)) i ++ none_sub c es (tail_other c e.component (components es) h) i)

  none_file : (c : Bytes) (es : List Entry) → T (not (list_any (same_bytes c) (components es))) → file_at (whole es) (c ∷ []) ≡ None
  none_file c [] h = refl
  none_file c (e ∷ es) h =
      at_append (c ∷ []) (placed e.component (g e)) (whole es)
      ∙ (λ i. option_or (at_other c e.component (g e) (as_false _ (head_other c e.component (components es) h)) i) (none_file c es (tail_other c e.component (components es) h) i))

  -- what a map has at an entry's component is what the entry has
  pub record AtEntry (f : FileMap Bytes) (e : Entry) : Type 0 where
    pub sub : sub_map f (e.component ∷ []) ≡ g e
    pub file : file_at f (e.component ∷ []) ≡ file_at (g e) []

  skip_all : (e : Entry) (rest : FileMap Bytes) (es : List Entry) → T (not (list_any (same_bytes e.component) (components es))) → AllByRecursion (AtEntry rest) es → AllByRecursion (AtEntry (placed e.component (g e) ++ rest)) es
  skip_all e rest [] n h = tt
  skip_all e rest (d ∷ es) n h =
      let o = as_false _ (flip e.component d.component (head_other e.component d.component (components es) n)) in (
        record {
          sub = sub_append d.component (placed e.component (g e)) rest ∙ (λ i. sub_other d.component e.component (g e) o i ++ h.0.sub i);
          file = at_append (d.component ∷ []) (placed e.component (g e)) rest ∙ (λ i. option_or (at_other d.component e.component (g e) o i) (h.0.file i));
        },
        skip_all e rest es (tail_other e.component d.component (components es) n) h.1,
      )

  -- a map has at each component what its entry has
  pub at_all : (es : List Entry) → T (are_different (components es)) → AllByRecursion (AtEntry (whole es)) es
  at_all [] d = tt
  at_all (e ∷ es) d =
      let n = first (not (list_any (same_bytes e.component) (components es))) _ d in (
        record {
          sub = sub_append e.component (placed e.component (g e)) (whole es) ∙ (λ i. sub_own e.component (g e) i ++ none_sub e.component es n i) ∙ append-nil (g e);
          file = at_append (e.component ∷ []) (placed e.component (g e)) (whole es) ∙ (λ i. option_or (at_own e.component (g e) i) (none_file e.component es n i)) ∙ or_none (file_at (g e) []);
        },
        skip_all e (whole es) es n (at_all es (second (not (list_any (same_bytes e.component) (components es))) _ d)),
      )

  -- ---- a file map
  paths_whole : (es : List Entry) → AllByRecursion Fits es → T (are_file_paths (whole es))
  paths_whole [] h = tt
  paths_whole (e ∷ es) h = all_append _ (placed e.component (g e)) (whole es) h.0.paths (paths_whole es h.1)

  apart_later : (c : Bytes) (p : Path) (es : List Entry) → T (not (list_any (same_bytes c) (components es))) → T (list_all (λ f. not (are_in_line (c ∷ p) f.0)) (whole es))
  apart_later c p [] n = tt
  apart_later c p (e ∷ es) n =
      let o = head_other c e.component (components es) n in
      all_append (λ f. not (are_in_line (c ∷ p) f.0)) (placed e.component (g e)) (whole es)
      (apart_cross c p e.component (g e) (as_false _ o) (as_false _ (flip c e.component o)))
      (apart_later c p es (tail_other c e.component (components es) n))

  apart_each : (c : Bytes) (f : FileMap Bytes) (es : List Entry) → T (not (list_any (same_bytes c) (components es))) → T (list_all (λ e. list_all (λ f. not (are_in_line e.0 f.0)) (whole es)) (placed c f))
  apart_each c [] es n = tt
  apart_each c (x ∷ xs) es n = both _ _ (apart_later c x.0 es n) (apart_each c xs es n)

  apart_whole : (es : List Entry) → AllByRecursion Fits es → T (are_different (components es)) → T (are_apart (whole es))
  apart_whole [] h d = tt
  apart_whole (e ∷ es) h d =
      let n = first (not (list_any (same_bytes e.component) (components es))) _ d in
      apart_append (placed e.component (g e)) (whole es) (apart_placed e.component (g e) h.0.apart)
      (apart_whole es h.1 (second (not (list_any (same_bytes e.component) (components es))) _ d))
      (apart_each e.component (g e) es n)

  below_later : (c : Bytes) (p : Path) (k : Bytes) (es : List Entry) → T (is_component c) → node_key (c ∷ p) ≡ k → AllByRecursion Fits es → T (not (list_any (same_bytes c) (components es))) → T (below_all byte_cmp k (entry_keys es)) → T (below_all path_cmp (c ∷ p) (whole es))
  below_later c p k [] kc e h n b = tt
  below_later c p k (d ∷ es) kc e h n b =
      below_append (c ∷ p) (placed d.component (g d)) (whole es)
      (below_cross c p k d.component (entry_key d) (g d) kc h.0.component (as_false _ (head_other c d.component (components es) n)) e (first _ _ b) h.0.keys)
      (below_later c p k es kc e h.1 (tail_other c d.component (components es) n) (second (is_lt (byte_cmp k (entry_key d))) (below_all byte_cmp k (entry_keys es)) b))

  below_each : (c k : Bytes) (f : FileMap Bytes) (es : List Entry) → T (is_component c) → AllByRecursion (λ q. node_key (c ∷ q.0) ≡ k) f → AllByRecursion Fits es → T (not (list_any (same_bytes c) (components es))) → T (below_all byte_cmp k (entry_keys es))
      → T (list_all (λ e. below_all path_cmp e.0 (whole es)) (placed c f))
  below_each c k [] es kc a h n b = tt
  below_each c k (x ∷ xs) es kc a h n b = both _ _ (below_later c x.0 k es kc a.0 h n b) (below_each c k xs es kc a.1 h n b)

  sorted_whole : (es : List Entry) → AllByRecursion Fits es → T (are_different (components es)) → T (is_sorted byte_cmp (entry_keys es)) → T (is_sorted path_cmp (whole es))
  sorted_whole [] h d s = tt
  sorted_whole (e ∷ es) h d s =
      let n = first (not (list_any (same_bytes e.component) (components es))) _ d in
      sorted_append (placed e.component (g e)) (whole es) h.0.sorted
      (sorted_whole es h.1 (second (not (list_any (same_bytes e.component) (components es))) _ d) (second (below_all byte_cmp (entry_key e) (entry_keys es)) _ s))
      (below_each e.component (entry_key e) (g e) es h.0.component h.0.keys h.1 n (first (below_all byte_cmp (entry_key e) (entry_keys es)) _ s))

  keys_of : (es : List Entry) → T (is_canonical es) → T (is_sorted byte_cmp (entry_keys es))
  keys_of es c = second (list_all (λ e. is_component e.component) es) _ (first _ _ c)

  differ : (es : List Entry) → T (is_canonical es) → T (are_different (components es))
  differ es c = second (list_all (λ e. is_component e.component) es && is_sorted byte_cmp (entry_keys es)) _ c

  -- the map of canonical entries is a file map
  pub whole_parts : (es : List Entry) → AllByRecursion Fits es → T (is_canonical es) → Parts (whole es)
  whole_parts es h c = record { paths = paths_whole es h; apart = apart_whole es h (differ es c); sorted = sorted_whole es h (differ es c) (keys_of es c) }

  -- ---- its tree's entries, and its parts
  module _ (name : Kind → Bytes → Bytes) (namer : IsNamer name) (Known : Value → Type 0) where
    -- what an entry gives is a sub-map that its name tells
    pub record Reads (e : Entry) : Type 0 where
      pub fits : Fits e
      pub told : ◌≡◌ {A = Leaf Bytes} (node name (option_map (leaf_named name namer) (file_at (g e) [])) (tree_name name (g e))) (e.mode, e.name)
      pub blobs : AllByRecursion Known (blobs_of (g e))
      pub leaves : T (list_all (λ x. is_leaf x.1.0 x.1.1) (g e))
      pub dir : is_none (file_at (g e) []) ≡ true → Known (tree_value (g e))

    all_fit : (es : List Entry) → AllByRecursion Reads es → AllByRecursion Fits es
    all_fit [] h = tt
    all_fit (e ∷ es) h = (h.0.fits, all_fit es h.1)

    told_all : (f : FileMap Bytes) (es : List Entry) → AllByRecursion Reads es → AllByRecursion (AtEntry f) es → map (node_entry name namer f) (components es) ≡ es
    told_all f [] h a = refl
    told_all f (e ∷ es) h a =
        let one : node_of name namer f e.component ≡ (e.mode, e.name) = (λ i. node name (option_map (leaf_named name namer) (a.0.file i)) (tree_name name (a.0.sub i))) ∙ h.0.told in
        let rest = told_all f es h.1 a.1 in
        λ i. entry name e.component (one i) ∷ rest i

    -- the entries of the map are those that it is of
    pub whole_entries : (es : List Entry) → AllByRecursion Reads es → T (is_canonical es) → entries name (named_map name (whole es)) ≡ es
    whole_entries es h c =
        spelling name namer (whole es) ∙ ap (map (node_entry name namer (whole es))) (firsts_whole es (all_fit es h) (differ es c)) ∙ told_all (whole es) es h (at_all es (differ es c))

    blobs_whole : (es : List Entry) → AllByRecursion Reads es → AllByRecursion Known (blobs_of (whole es))
    blobs_whole [] h = tt
    blobs_whole (e ∷ es) h =
        subst (AllByRecursion Known) (sym (blobs_append (placed e.component (g e)) (whole es) ∙ ap (λ vs. vs ++ blobs_of (whole es)) (blobs_placed e.component (g e))))
        (all_join Known (blobs_of (g e)) (blobs_of (whole es)) h.0.blobs (blobs_whole es h.1))

    leaves_whole : (es : List Entry) → AllByRecursion Reads es → T (list_all (λ x. is_leaf x.1.0 x.1.1) (whole es))
    leaves_whole [] h = tt
    leaves_whole (e ∷ es) h = all_append _ (placed e.component (g e)) (whole es) (leaves_placed e.component (g e) h.0.leaves) (leaves_whole es h.1)

    dirs_all : (f : FileMap Bytes) (es : List Entry) → AllByRecursion Reads es → AllByRecursion (AtEntry f) es
        → AllByRecursion Known (map tree_value (map (λ c. sub_map f (c ∷ [])) (filter (λ c. is_none (file_at f (c ∷ []))) (components es))))
    dirs_all f [] h a = tt
    dirs_all f (e ∷ es) h a =
        let rest = dirs_all f es h.1 a.1 in
        elim (is_none (file_at f (e.component ∷ []))) as (λ b. is_none (file_at f (e.component ∷ [])) ≡ b → AllByRecursion Known (map tree_value (map (λ c. sub_map f (c ∷ [])) (cond b (e.component ∷ filter (λ c. is_none (file_at f (c ∷ []))) (components es)) (filter (λ c. is_none (file_at f (c ∷ []))) (components es)))))) [
          | true ↦ λ k. (subst (λ s. Known (tree_value s)) (sym a.0.sub) (h.0.dir (ap is_none (sym a.0.file) ∙ k)), rest)
          | false ↦ λ k. rest
        ] refl

    -- a file map with known parts, whose entries these are
    pub record IsRebuilt (es : List Entry) : Type 0 where
      pub content : T (is_content (whole es))
      pub body : tree_body name (named_map name (whole es)) ≡ tree_text es
      pub parts_known : AllByRecursion Known (parts (tree_value (whole es)))

    -- canonical entries give a file map whose entries they are
    pub rebuilt : (es : List Entry) → AllByRecursion Reads es → T (is_canonical es) → IsRebuilt es
    rebuilt es h c = record {
      content = both _ _ (passes _ (of_parts _ (whole_parts es (all_fit es h) c))) (leaves_whole es h);
      body = ap tree_text (whole_entries es h c);
      parts_known = all_join Known (blobs_of (whole es)) (map tree_value (sub_maps (whole es))) (blobs_whole es h)
          (subst (λ cs. AllByRecursion Known (map tree_value (map (λ c. sub_map (whole es) (c ∷ [])) (filter (λ c. is_none (file_at (whole es) (c ∷ []))) cs)))) (sym (firsts_whole es (all_fit es h) (differ es c)))
          (dirs_all (whole es) es h (at_all es (differ es c))));
    }
