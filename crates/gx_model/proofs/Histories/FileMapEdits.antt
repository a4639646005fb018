-- An edit of a file map that isn't refused gives a file map.
use Rattle.std.proofs.Common.{◌≡◌, Bool, true, false, cond, refl, sym, subst, List, [], ◌∷◌, ◌++◌, length, drop, Option, None, Some}
use Rattle.std.specs.Prelude.{T, not, ◌&&◌, is_some, IfOk}
use Rattle.std.specs.List.{list_all, filter}
use Rattle.std.specs.declared.cmp.Ordering.TheVariants.{Less, Equal, Greater}
use Rattle.std.specs.Cmp.{IsTotalOrder}
use Rattle.gx_model.specs.declared.faults.Fault.{Fault}
use Rattle.gx_model.specs.declared.faults.Fault.TheVariants.{NoSuchPath, RootNotTree, PathTooLong}
use Rattle.std.specs.Cmp.Lexicographic.{on_texts}
use Rattle.std.specs.FinMap.Entries.{put, by_order, is_sorted, is_sorted-put, is_sorted-where_key}
use Rattle.std.specs.Bool.{passes}
use Rattle.gx_model.specs.Texts.{Bytes}
use Rattle.gx_model.specs.Texts.Paths.{Path, path_cmp, path_text, begins, are_in_line, is_file_path, is_component, is_short, same_path}
use Rattle.gx_model.specs.Histories.Files.{are_apart, are_file_paths, is_file_map, under}
use Rattle.std.specs.Map.{lookup}
use Rattle.gx_model.specs.Histories.Edits.{without_line, without, with_all, moved, modified, removed, copy_fault, copied, renamed}
use Rattle.gx_model.specs.Faults.{unless}
use Rattle.gx_model.proofs.Texts.PathTests.{both, first, second, is_true, not_by, not_both, all_filter, all_passing, all_each, all_append, all_drop, same_is, path_same, or_comm, in_line_above, in_line_moved}

-- the byte order of whole paths is a total order
pub path_order : IsTotalOrder path_cmp
path_order = on_texts path_text

not_weaker : (a b : Bool) → (T b → T a) → T (not a) → T (not b)
not_weaker a b f h = not_by b (λ k. not_both a h (f k))

and_true : (b : Bool) → (b && true) ≡ false → b ≡ false
and_true true h = h
and_true false h = refl

no_fault : (a b c : Bool) → cond a (Some NoSuchPath) (cond b (Some RootNotTree) (cond c None (Some PathTooLong))) ≡ None → (a ≡ false) × (b ≡ false) × (c ≡ true)
no_fault true b c h = absurd (cc)
no_fault false true c h = absurd (cc)
no_fault false false true h = (refl, refl, refl)
no_fault false false false h = absurd (cc)

nothing_left : (s q : Path) → T (begins s q) → drop (length s) q ≡ [] → s ≡ q
nothing_left [] q h e = sym e
nothing_left (c ∷ s) [] h e = absurd h
nothing_left (c ∷ s) (d ∷ q) h e = λ i. same_is c d (first _ _ h) i ∷ nothing_left s q (second _ _ h) e i

components : (p : Path) → T (is_file_path p) → T (list_all is_component p)
components [] h = tt
components (c ∷ p) h = first _ _ h

module _ {X : Type 0} where
  -- ---- a test of the keys holds of the entries after a put, if it holds of the new key
  pub all_put : (t : Path → Bool) (k : Path) (v : X) (es : List (Path × X)) → T (t k) → T (list_all (λ e. t e.0) es) → T (list_all (λ e. t e.0) (put path_cmp k v es))
  all_put t k v [] h g = both (t k) true h tt
  all_put t k v (e ∷ es) h g =
      elim (path_cmp k e.0) as (λ o. T (list_all (λ e. t e.0) (by_order o ((k, v) ∷ e ∷ es) ((e.0, v) ∷ es) (e ∷ put path_cmp k v es)))) [
        | Less ↦ both _ _ h g
        | Equal ↦ g
        | Greater ↦ both _ _ (first _ _ g) (all_put t k v es h (second _ _ g))
      ]

  apart_put : (k : Path) (v : X) (es : List (Path × X)) → T (list_all (λ e. not (are_in_line k e.0)) es) → T (are_apart es) → T (are_apart (put path_cmp k v es))
  apart_put k v [] h g = tt
  apart_put k v (e ∷ es) h g =
      elim (path_cmp k e.0) as (λ o. T (are_apart (by_order o ((k, v) ∷ e ∷ es) ((e.0, v) ∷ es) (e ∷ put path_cmp k v es)))) [
        | Less ↦ both _ _ h g
        | Equal ↦ g
        | Greater ↦
            both _ _
            (all_put (λ q. not (are_in_line e.0 q)) k v es (subst (λ b. T (not b)) (or_comm (begins k e.0) (begins e.0 k)) (first _ _ h)) (first _ _ g))
            (apart_put k v es (second _ _ h) (second _ _ g))
      ]

  apart_filter : (p : Path × X → Bool) (es : List (Path × X)) → T (are_apart es) → T (are_apart (filter p es))
  apart_filter p [] h = tt
  apart_filter p (e ∷ es) h =
      let rest = apart_filter p es (second _ _ h) in
      elim (p e) as (λ b. T (are_apart (cond b (e ∷ filter p es) (filter p es)))) [
        | true ↦ both _ _ (all_filter _ p es (first _ _ h)) rest
        | false ↦ rest
      ]

  -- ---- the three parts of a file map
  pub record Parts (es : List (Path × X)) : Type 0 where
    pub paths : T (are_file_paths es)
    pub apart : T (are_apart es)
    pub sorted : T (is_sorted path_cmp es)

  -- what a file map's test tells
  pub parts_of : (es : List (Path × X)) → is_file_map es ≡ true → Parts es
  parts_of es h =
      let t : T (is_file_map es) = passes _ h in
      let fst : T (are_file_paths es && are_apart es) = first _ _ t in
      record { paths = first _ _ fst; apart = second _ _ fst; sorted = second (are_file_paths es && are_apart es) _ t }

  -- what tells that a list is a file map
  pub of_parts : (es : List (Path × X)) → Parts es → is_file_map es ≡ true
  of_parts es p = is_true _ (both _ _ (both _ _ p.paths p.apart) p.sorted)

  put_parts : (k : Path) (v : X) (es : List (Path × X)) → T (is_file_path k) → T (list_all (λ e. not (are_in_line k e.0)) es) → Parts es → Parts (put path_cmp k v es)
  put_parts k v es f h p = record {
    paths = all_put is_file_path k v es f p.paths;
    apart = apart_put k v es h p.apart;
    sorted = is_sorted-put path_cmp path_order k v es p.sorted;
  }

  -- by a test of the keys
  pub filter_parts : (t : Path → Bool) (es : List (Path × X)) → Parts es → Parts (filter (λ e. t e.0) es)
  filter_parts t es p = record {
    paths = all_filter _ (λ e. t e.0) es p.paths;
    apart = apart_filter (λ e. t e.0) es p.apart;
    sorted = is_sorted-where_key path_cmp t es p.sorted;
  }

  -- ---- many puts
  all_with_all : (t : Path → Bool) (new es : List (Path × X)) → T (list_all (λ e. t e.0) new) → T (list_all (λ e. t e.0) es) → T (list_all (λ e. t e.0) (with_all new es))
  all_with_all t [] es h g = g
  all_with_all t (e ∷ new) es h g = all_put t e.0 e.1 (with_all new es) (first _ _ h) (all_with_all t new es (second _ _ h) g)

  with_all_parts : (new es : List (Path × X)) → T (are_file_paths new) → T (are_apart new) → T (list_all (λ e. list_all (λ f. not (are_in_line e.0 f.0)) es) new) → Parts es → Parts (with_all new es)
  with_all_parts [] es f a h p = p
  with_all_parts (e ∷ new) es f a h p =
      put_parts e.0 e.1 (with_all new es) (first _ _ f)
      (all_with_all (λ q. not (are_in_line e.0 q)) new es (first _ _ a) (first _ _ h))
      (with_all_parts new es (second _ _ f) (second _ _ a) (second _ _ h) p)

  -- ---- what is moved stays apart
  one_moved : (s d : Path) (e : Path × X) (es : List (Path × X)) → T (begins s e.0) → T (list_all (λ f. begins s f.0) es) → T (list_all (λ f. not (are_in_line e.0 f.0)) es)
      → T (list_all (λ f. not (are_in_line (d ++ drop (length s) e.0) f.0)) (moved s d es))
  one_moved s d e [] b bs h = tt
  one_moved s d e (f ∷ es) b bs h =
      both _ _
      (not_weaker (are_in_line e.0 f.0) (are_in_line (d ++ drop (length s) e.0) (d ++ drop (length s) f.0)) (in_line_moved s d e.0 f.0 b (first _ _ bs)) (first _ _ h))
      (one_moved s d e es b (second _ _ bs) (second _ _ h))

  -- entries that are moved together stay apart
  pub apart_moved : (s d : Path) (es : List (Path × X)) → T (list_all (λ f. begins s f.0) es) → T (are_apart es) → T (are_apart (moved s d es))
  apart_moved s d [] b h = tt
  apart_moved s d (e ∷ es) b h = both _ _ (one_moved s d e es (first _ _ b) (second _ _ b) (first _ _ h)) (apart_moved s d es (second _ _ b) (second _ _ h))

  -- and apart from what isn't in line with its new place
  moved_from_rest : (s d : Path) (new es : List (Path × X)) → T (list_all (λ f. not (are_in_line d f.0)) es) → T (list_all (λ e. list_all (λ f. not (are_in_line e.0 f.0)) es) (moved s d new))
  moved_from_rest s d [] es h = tt
  moved_from_rest s d (e ∷ new) es h =
      both _ _
      (all_each (λ f. not (are_in_line d f.0)) (λ f. not (are_in_line (d ++ drop (length s) e.0) f.0)) (λ f. not_weaker (are_in_line d f.0) (are_in_line (d ++ drop (length s) e.0) f.0) (in_line_above d (drop (length s) e.0) f.0)) es h)
      (moved_from_rest s d new es h)

  -- what is left without a line isn't in that line
  pub without_line_passes : (d : Path) (es : List (Path × X)) → T (list_all (λ f. not (are_in_line d f.0)) (without_line d es))
  without_line_passes d es = all_passing (λ f. not (are_in_line d f.0)) (λ f. not (are_in_line d f.0)) (λ f h. h) es

  -- what is under a path is begun by it
  pub under_passes : (s : Path) (es : List (Path × X)) → T (list_all (λ f. begins s f.0) (under s es))
  under_passes s es = all_passing (λ f. begins s f.0) (λ f. begins s f.0) (λ f h. h) es

  -- ---- the edits
  -- a modify gives a file map
  pub modified_parts : (es : List (Path × X)) (p : Path) (x : X) → T (is_file_path p) → Parts es → IfOk (modified es p x) Parts
  modified_parts es [] x f h = tt
  modified_parts es (c ∷ p) x f h =
      put_parts (c ∷ p) x (without_line (c ∷ p) es) f (without_line_passes (c ∷ p) es) (filter_parts (λ q. not (are_in_line (c ∷ p) q)) es h)

  -- a remove gives a file map
  pub removed_parts : (es : List (Path × X)) (p : Path) → Parts es → Parts (removed es p)
  removed_parts es p h = filter_parts (λ q. not (begins p q)) es h

  -- what is moved together, put where its place is cleared, gives a file map
  pub placed_parts : (s d : Path) (es rest : List (Path × X)) → T (are_file_paths (moved s d (under s es))) → Parts es → Parts rest → Parts (with_all (moved s d (under s es)) (without_line d rest))
  placed_parts s d es rest f h r =
      with_all_parts (moved s d (under s es)) (without_line d rest) f
      (apart_moved s d (under s es) (under_passes s es) (filter_parts (begins s) es h).apart)
      (moved_from_rest s d (under s es) (without_line d rest) (without_line_passes d rest))
      (filter_parts (λ q. not (are_in_line d q)) rest r)

  -- ---- where a copy isn't refused, what is moved has paths of files
  not_one : (e : Path × X) (s : Path) → T (not (same_path s e.0)) → s ≡ e.0 → ⊥
  not_one e s h q = not_both (same_path s e.0) h (subst (λ r. T (same_path s r)) q (path_same s))

  into_root : (s : Path) (e : Path × X) → T (begins s e.0) → T (is_file_path e.0) → T (is_short (drop (length s) e.0)) → T (not (same_path s e.0)) → T (is_file_path (drop (length s) e.0))
  into_root s e b f h n = by (drop (length s) e.0) refl (all_drop is_component (length s) e.0 (components e.0 f)) h
    where
      by : (q : Path) → drop (length s) e.0 ≡ q → T (list_all is_component q) → T (is_short q) → T (is_file_path q)
      by [] q c k = absurd (not_one e s n (nothing_left s e.0 b q))
      by (c ∷ q) r l k = both _ _ l k

  -- what is moved to the root has paths of files, unless a file is
  pub all_into_root : (s : Path) (es : List (Path × X)) → T (list_all (λ e. begins s e.0) es) → T (are_file_paths es) → T (list_all (λ e. is_short e.0) (moved s [] es))
      → T (list_all (λ e. not (same_path s e.0)) es) → T (are_file_paths (moved s [] es))
  all_into_root s [] b f h n = tt
  all_into_root s (e ∷ es) b f h n =
      both _ _ (into_root s e (first _ _ b) (first _ _ f) (first _ _ h) (first _ _ n)) (all_into_root s es (second _ _ b) (second _ _ f) (second _ _ h) (second _ _ n))

  all_into : (s : Path) (c : Bytes) (d : Path) (es : List (Path × X)) → T (list_all is_component (c ∷ d)) → T (are_file_paths es) → T (list_all (λ e. is_short e.0) (moved s (c ∷ d) es))
      → T (are_file_paths (moved s (c ∷ d) es))
  all_into s c d [] k f h = tt
  all_into s c d (e ∷ es) k f h =
      both _ _
      (both _ _ (all_append is_component (c ∷ d) (drop (length s) e.0) k (all_drop is_component (length s) e.0 (components e.0 (first _ _ f)))) (first _ _ h))
      (all_into s c d es k (second _ _ f) (second _ _ h))

  -- where nothing is found, no path passes the test
  pub none_at : (t : Path → Bool) (es : List (Path × X)) → is_some (lookup t es) ≡ false → T (list_all (λ e. not (t e.0)) es)
  none_at t [] h = tt
  none_at t (e ∷ es) h = elim (t e.0) as (λ b. is_some (cond b (Some e.1) (lookup t es)) ≡ false → T (not b && list_all (λ e. not (t e.0)) es)) [ true ↦ λ k. absurd (cc) | false ↦ λ k. none_at t es k ] h

  -- where a copy isn't refused, what is moved has paths of files
  pub moved_paths : (s d : Path) (es : List (Path × X)) → T (list_all is_component d) → T (are_file_paths es) → copy_fault es s d ≡ None → T (are_file_paths (moved s d (under s es)))
  moved_paths s [] es k f h =
      let n = no_fault _ _ _ h in
      all_into_root s (under s es) (under_passes s es) (all_filter _ _ es f) (passes _ n.2)
      (all_filter _ _ es (none_at (same_path s) es (and_true _ n.1)))
  moved_paths s (c ∷ d) es k f h =
      let n = no_fault _ _ _ h in
      all_into s c d (under s es) k (all_filter _ _ es f) (passes _ n.2)

  fault_or : (f : Option Fault) (es : List (Path × X)) → (f ≡ None → Parts es) → IfOk (unless f es) Parts
  fault_or None es h = h refl
  fault_or (Some f) es h = tt

  -- a copy that isn't refused gives a file map
  pub copied_parts : (es : List (Path × X)) (s d : Path) → T (list_all is_component d) → Parts es → IfOk (copied es s d) Parts
  copied_parts es s d k h = fault_or (copy_fault es s d) _ (λ n. placed_parts s d es es (moved_paths s d es k h.paths n) h h)

  -- a rename that isn't refused gives a file map
  pub renamed_parts : (es : List (Path × X)) (s d : Path) → T (list_all is_component d) → Parts es → IfOk (renamed es s d) Parts
  renamed_parts es s d k h = fault_or (copy_fault es s d) _ (λ n. placed_parts s d es (without s es) (moved_paths s d es k h.paths n) h (removed_parts es s h))
