-- The sub-map at a directory is a file map.
use Rattle.std.proofs.Common.{◌≡◌, ◌≤◌, Bool, true, refl, sym, ap, subst, ◌∙◌, arith, List, [], ◌∷◌, ◌++◌, length, drop, map, None, length-append}
use Rattle.std.specs.Prelude.{T, not, ◌&&◌, is_some, nat_le}
use Rattle.std.specs.List.{list_all}
use Rattle.std.specs.Ordering.{ordering_then, is_lt}
use Rattle.std.specs.Cmp.{tied_itself, nat_cmp_total}
use Rattle.std.specs.FinMap.Entries.{is_sorted, below_all}
use Rattle.std.specs.Bool.{passes}
use Rattle.std.proofs.lemmas.Bool.{leb-true, le-leb}
use Rattle.gx_model.specs.Texts.{Bytes, byte_cmp, same_bytes}
use Rattle.gx_model.specs.Texts.Paths.{Path, same_path, path_text, path_cmp, begins, is_short, is_file_path}
use Rattle.gx_model.specs.Histories.Files.{FileMap, file_at, sub_map, under, are_file_paths, is_file_map}
use Rattle.gx_model.specs.Histories.Values.{is_content, is_leaf}
use Rattle.gx_model.proofs.Texts.PathTests.{both, first, second, is_true, not_both, all_filter, all_map, same_is}
use Rattle.gx_model.proofs.Histories.FileMapEdits.{Parts, parts_of, of_parts, apart_moved, all_into_root, none_at, filter_parts, under_passes}

cmp_prefix : (x a b : Bytes) → byte_cmp (x ++ a) (x ++ b) ≡ byte_cmp a b
cmp_prefix [] a b = refl
cmp_prefix (n ∷ x) a b = ap (λ o. ordering_then o (byte_cmp (x ++ a) (x ++ b))) (tied_itself nat_cmp_total n) ∙ cmp_prefix x a b

-- paths below one component stand in the order that they have without it
pub cmp_below : (c : Bytes) (d : Bytes) (p : Path) (e : Bytes) (q : Path) → path_cmp (c ∷ d ∷ p) (c ∷ e ∷ q) ≡ path_cmp (d ∷ p) (e ∷ q)
cmp_below c d p e q = cmp_prefix c (47 ∷ path_text (d ∷ p)) (47 ∷ path_text (e ∷ q))

-- below c, and not c itself
abbrev is_below : Bytes → Path → Bool
is_below c p = begins (c ∷ []) p && not (same_path (c ∷ []) p)

less_below : (c : Bytes) (p q : Path) → T (is_below c p) → T (is_below c q) → T (is_lt (path_cmp p q)) → T (is_lt (path_cmp (drop 1 p) (drop 1 q)))
less_below c [] q h g l = absurd h
less_below c (a ∷ p) [] h g l = absurd g
less_below c (a ∷ []) (b ∷ q) h g l = absurd (alone c a h)
  where
    alone : (c a : Bytes) → T (is_below c (a ∷ [])) → ⊥
    alone c a k = not_both (same_path (c ∷ []) (a ∷ [])) (second (begins (c ∷ []) (a ∷ [])) _ k) (first (begins (c ∷ []) (a ∷ [])) (not (same_path (c ∷ []) (a ∷ []))) k)
less_below c (a ∷ d ∷ p) (b ∷ []) h g l = absurd (alone c b g)
  where
    alone : (c a : Bytes) → T (is_below c (a ∷ [])) → ⊥
    alone c a k = not_both (same_path (c ∷ []) (a ∷ [])) (second (begins (c ∷ []) (a ∷ [])) _ k) (first (begins (c ∷ []) (a ∷ [])) (not (same_path (c ∷ []) (a ∷ []))) k)
less_below c (a ∷ d ∷ p) (b ∷ e ∷ q) h g l =
    let ca : c ≡ a = same_is c a (first (same_bytes c a) true (first (begins (c ∷ []) (a ∷ d ∷ p)) _ h)) in
    let cb : c ≡ b = same_is c b (first (same_bytes c b) true (first (begins (c ∷ []) (b ∷ e ∷ q)) _ g)) in
    subst (λ o. T (is_lt o)) (ap (λ z. path_cmp (z ∷ d ∷ p) (b ∷ e ∷ q)) (sym ca) ∙ ap (λ z. path_cmp (c ∷ d ∷ p) (z ∷ e ∷ q)) (sym cb) ∙ cmp_below c d p e q) l

shorter : (p : Path) → T (is_short p) → T (is_short (drop 1 p))
shorter [] h = h
shorter (c ∷ []) h = tt
shorter (c ∷ d ∷ p) h =
    let l : length (c ++ 47 ∷ path_text (d ∷ p)) ≤ 4095 = leb-true _ _ (is_true (nat_le (length (c ++ 47 ∷ path_text (d ∷ p))) 4095) h) in
    passes _ (le-leb (length (path_text (d ∷ p))) 4095 (omega (arith, length-append c (47 ∷ path_text (d ∷ p)))))

short_of : (p : Path) → T (is_file_path p) → T (is_short p)
short_of [] h = absurd h
short_of (c ∷ p) h = second _ (is_short (c ∷ p)) h

module _ {X : Type 0} where
  abbrev off_one : List (Path × X) → List (Path × X)
  off_one es = map (λ e. (drop 1 e.0, e.1)) es

  below_sub : (c : Bytes) (p : Path) (es : List (Path × X)) → T (is_below c p) → T (list_all (λ e. is_below c e.0) es) → T (below_all path_cmp p es) → T (below_all path_cmp (drop 1 p) (off_one es))
  below_sub c p [] h g b = tt
  below_sub c p (e ∷ es) h g b =
      both _ _ (less_below c p e.0 h (first _ _ g) (first _ _ b)) (below_sub c p es h (second (is_below c e.0) (list_all (λ e. is_below c e.0) es) g) (second (is_lt (path_cmp p e.0)) (below_all path_cmp p es) b))

  sorted_sub : (c : Bytes) (es : List (Path × X)) → T (list_all (λ e. is_below c e.0) es) → T (is_sorted path_cmp es) → T (is_sorted path_cmp (off_one es))
  sorted_sub c [] h s = tt
  sorted_sub c (e ∷ es) h s =
      both _ _ (below_sub c e.0 es (first _ _ h) (second (is_below c e.0) (list_all (λ e. is_below c e.0) es) h) (first (below_all path_cmp e.0 es) _ s))
      (sorted_sub c es (second (is_below c e.0) (list_all (λ e. is_below c e.0) es) h) (second (below_all path_cmp e.0 es) _ s))

  both_tests : (t u : Path × X → Bool) (es : List (Path × X)) → T (list_all t es) → T (list_all u es) → T (list_all (λ e. t e && u e) es)
  both_tests t u [] h g = tt
  both_tests t u (e ∷ es) h g = both (t e && u e) (list_all (λ e. t e && u e) es) (both (t e) (u e) (first (t e) (list_all t es) h) (first (u e) (list_all u es) g)) (both_tests t u es (second (t e) (list_all t es) h) (second (u e) (list_all u es) g))

  short_off : (es : List (Path × X)) → T (are_file_paths es) → T (list_all (λ e. is_short e.0) (off_one es))
  short_off [] h = tt
  short_off (e ∷ es) h = both _ _ (shorter e.0 (short_of e.0 (first _ _ h))) (short_off es (second (is_file_path e.0) (are_file_paths es) h))

  -- the sub-map at a directory is a file map
  pub sub_parts : (c : Bytes) (f : List (Path × X)) → Parts f → file_at f (c ∷ []) ≡ None → Parts (sub_map f (c ∷ []))
  sub_parts c f h n =
      let u : Parts (under (c ∷ []) f) = filter_parts (begins (c ∷ [])) f h in
      let below_c = under_passes (c ∷ []) f in
      let apart_c : T (list_all (λ e. not (same_path (c ∷ []) e.0)) (under (c ∷ []) f)) = all_filter _ (λ e. begins (c ∷ []) e.0) f (none_at (same_path (c ∷ [])) f (ap is_some n)) in
      record {
        paths = all_into_root (c ∷ []) (under (c ∷ []) f) below_c u.paths (short_off (under (c ∷ []) f) u.paths) apart_c;
        apart = apart_moved (c ∷ []) [] (under (c ∷ []) f) below_c u.apart;
        sorted = sorted_sub c (under (c ∷ []) f) (both_tests (λ e. begins (c ∷ []) e.0) (λ e. not (same_path (c ∷ []) e.0)) (under (c ∷ []) f) below_c apart_c) u.sorted;
      }

leaves_sub : (c : Bytes) (f : FileMap Bytes) → T (list_all (λ e. is_leaf e.1.0 e.1.1) f) → T (list_all (λ e. is_leaf e.1.0 e.1.1) (sub_map f (c ∷ [])))
leaves_sub c f h = all_map (λ e. is_leaf e.1.0 e.1.1) (λ e. (drop 1 e.0, e.1)) (under (c ∷ []) f) (all_filter (λ e. is_leaf e.1.0 e.1.1) (λ e. begins (c ∷ []) e.0) f h)

-- the sub-map at a directory is proper content
pub sub_content : (c : Bytes) (f : FileMap Bytes) → T (is_content f) → file_at f (c ∷ []) ≡ None → T (is_content (sub_map f (c ∷ [])))
sub_content c f h n =
    both _ _ (passes _ (of_parts _ (sub_parts c f (parts_of f (is_true _ (first (is_file_map f) _ h))) n))) (leaves_sub c f (second (is_file_map f) _ h))
