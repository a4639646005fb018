-- What a revision gives stands in the history, and is told by its name.
use Rattle.std.proofs.Common.{◌≡◌, ℕ, zero, suc, Bool, true, false, cond, refl, sym, ap, subst, ◌∙◌, List, [], ◌∷◌, map, Option, None, Some, Result, Ok, Err, inl, inr}
use Rattle.std.specs.Prelude.{T, ◌&&◌, ◌↔◌, IfSome, nat_eq, nat_le, nat_lt, length}
use Rattle.std.specs.List.{AllByRecursion, filter, slice_get}
use Rattle.std.specs.Map.{lookup}
use Rattle.gx_model.specs.declared.faults.Fault.{Fault}
use Rattle.gx_model.specs.declared.faults.Fault.TheVariants as fault
use Rattle.gx_model.specs.declared.objects.Kind.{Kind}
use Rattle.gx_model.specs.declared.objects.Mode.{Mode}
use Rattle.gx_model.specs.declared.objects.Mode.TheVariants.{File, Exec, Link, Gitlink, Dir}
use Rattle.gx_model.specs.Texts.{Bytes, same_bytes}
use Rattle.gx_model.specs.Faults.{◌>>=◌}
use Rattle.gx_model.specs.Texts.Paths.{Path}
use Rattle.gx_model.specs.Histories.Files.{FileMap, Leaf, file_at, sub_map}
use Rattle.gx_model.specs.Histories.Values.{Commit, Value, blob_of, blob_value, blobs_of, commit_value, files_of, is_content, is_leaf, list_of, parents_of, parts, sub_maps, tag_value, tree_value}
use Rattle.gx_model.specs.Objects.{IsNamer}
use Rattle.gx_model.specs.Records.{kind_of, name_of}
use Rattle.gx_model.specs.Histories.{AreDistinct, History, IsHistory, IsIn, IsWhole, Records, Target, value_at}
use Rattle.gx_model.specs.Records.HistoryOf.{history_of}
use Rattle.gx_model.specs.Records.Sound.{IsSound}
use Rattle.gx_model.specs.Revisions.{Revision, Suffix, ancestor, as_blob, as_commit, as_tag, as_tree, itself, parent, peeled}
use Rattle.gx_model.specs.Revisions.Denotation.{Shown, all_suffixed, are_digits, at_path, base_value, begun_by, commit_in, denoted, files_in, find_ref, first_ref, full_name, nth_ancestor, nth_parent, object, of_leaf, of_sub_map, only_blob, only_commit, only_tag, peel, ref_at, ref_names, shown_at, submodule, suffixed, the_one}
use Rattle.std.specs.Option.{ok_or, option_or}
use Rattle.gx_model.specs.Laws.RepositoryLaws.{AreOneAnswer}
use Rattle.gx_model.proofs.ObjectTexts.OneTree.{all_left, found_known, only_file}
use Rattle.gx_model.proofs.Records.OneHistory.{told_by_name}
use Rattle.gx_model.proofs.Records.LinkedValues.{parts_in}
use Rattle.gx_model.proofs.ObjectTexts.RebuiltValues.{has_some}
use Rattle.gx_model.proofs.ObjectTexts.TreePaths.{content_in, content_parts, file_sub, leaf_at, sub_in}
use Rattle.gx_model.proofs.Records.TreeWalks.{some_sub, sub_sub}
use Rattle.gx_model.proofs.Records.GrownRecords.{distinct_of, whole_of}
use Rattle.gx_model.proofs.Records.HistoriesExist.{stands}

-- ---- steps that may be refused

-- what both steps gave
both_gave : {A B : Type 0} (r : Result A Fault) (f : A → Result B Fault) (b : B) → (r >>= f) ≡ Ok b → (a : A) × (r ≡ Ok a) × (f a ≡ Ok b)
both_gave (Ok a) f b e = (a, refl, e)
both_gave (Err g) f b e = absurd cc

ok_is : {A : Type 0} (a b : A) → ◌≡◌ {A = Result A Fault} (Ok a) (Ok b) → a ≡ b
ok_is a b e = cc

sub_root : (f : FileMap Bytes) → sub_map f [] ≡ f
sub_root [] = refl
sub_root (e ∷ es) = ap (λ fs. e ∷ fs) (sub_root es)

-- a value that a filter leaves stands in the list
filtered : (t : Value → Bool) (vs : List Value) (v : Value) → IsIn (filter t vs) v → IsIn vs v
filtered t [] v i = i
filtered t (w ∷ vs) v i = elim (t w) as (λ b. IsIn (cond b (w ∷ filter t vs) (filter t vs)) v → IsIn (w ∷ vs) v) [ true ↦ λ j. elim j [ inl e ↦ inl e | inr k ↦ inr (filtered t vs v k) ] | false ↦ λ j. inr (filtered t vs v j) ] i

module _ (name : Kind → Bytes → Bytes) (namer : IsNamer name) (h : History) (history : IsHistory h) (distinct : AreDistinct (map (name_of name) h.values)) where
  abbrev Stands : Value → Type 0
  Stands = IsIn h.values

  whole : IsWhole h.values
  whole = whole_of name namer h history

  -- ---- what a path gives

  pub file_stands : (f : FileMap Bytes) (p : Path) (m : Mode) (x : Bytes) (v : Value) → Stands (tree_value f) → file_at f p ≡ Some (m, x) → of_leaf m x ≡ object v → Stands v
  file_stands f p m x v i e =
      let known = found_known name namer Stands (told_by_name name namer h.values distinct) f p (all_left Stands (blobs_of f) (map tree_value (sub_maps f)) (parts_in h.values (tree_value f) whole i)) in
      by m (subst (λ (o : Option (Leaf Bytes)). IfSome o (λ y. IfSome (blob_of y.0 y.1) Stands)) e known) (leaf_at name namer f p (m, x) (content_in name namer h.values whole distinct f i) e)
    where
      by : (m : Mode) → IfSome (blob_of m x) Stands → T (is_leaf m x) → of_leaf m x ≡ object v → Stands v
      by File j l k = let same : blob_value x ≡ v = cc in subst Stands same j
      by Exec j l k = let same : blob_value x ≡ v = cc in subst Stands same j
      by Link j l k = let same : blob_value x ≡ v = cc in subst Stands same j
      by Gitlink j l k = absurd cc
      by Dir j l k = absurd l

  some_above : (g : FileMap Bytes) (p : Path) → T (has_some (sub_map g p)) → T (has_some g)
  some_above [] p s = s
  some_above (e ∷ es) p s = tt

  sub_map_stands : (p : Path) (f : FileMap Bytes) → Stands (tree_value f) → file_at f p ≡ None → T (has_some (sub_map f p)) → Stands (tree_value (sub_map f p))
  sub_map_stands [] f i n s = subst (λ g. Stands (tree_value g)) (sym (sub_root f)) i
  sub_map_stands (c ∷ p) f i n s = by (file_at f (c ∷ [])) refl (λ g j m k. sub_map_stands p g j m k)
    where
      t : T (is_content f)
      t = content_in name namer h.values whole distinct f i

      file_above : (q : Path) (x : Leaf Bytes) → file_at f (c ∷ []) ≡ Some x → file_at f (c ∷ q) ≡ None → T (has_some (sub_map f (c ∷ q))) → ⊥
      file_above [] x e m k = let l : Some x ≡ None = sym e ∙ m in cc
      file_above (d ∷ q) x e m k = subst (λ g. T (has_some g)) (sub_sub c (d ∷ q) f ∙ ap (λ g. sub_map g (d ∷ q)) (only_file c f x (content_parts f t).apart e)) k

      by : (o : Option (Leaf Bytes)) → file_at f (c ∷ []) ≡ o → ((g : FileMap Bytes) → Stands (tree_value g) → file_at g p ≡ None → T (has_some (sub_map g p)) → Stands (tree_value (sub_map g p))) → Stands (tree_value (sub_map f (c ∷ p)))
      by (Some x) e rec = absurd (file_above p x e n s)
      by None e rec =
          let g = sub_map f (c ∷ []) in
          let k : T (has_some (sub_map g p)) = subst (λ fs. T (has_some fs)) (sub_sub c p f) s in
          let j = sub_in name namer h.values whole distinct f c i (some_sub name namer c f (some_above g p k)) e in
          subst (λ fs. Stands (tree_value fs)) (sym (sub_sub c p f)) (rec g j (file_sub c p f ∙ n) k)

  path_stands : (f : FileMap Bytes) (p : Path) (v : Value) → Stands (tree_value f) → at_path f p ≡ Ok (object v) → Stands v
  path_stands f [] v i e = let same : tree_value f ≡ v = cc in subst Stands same i
  path_stands f (c ∷ p) v i e = by (file_at f (c ∷ p)) refl e
    where
      below : (g : FileMap Bytes) → file_at f (c ∷ p) ≡ None → sub_map f (c ∷ p) ≡ g → of_sub_map g ≡ Ok (object v) → Stands v
      below [] n k l = absurd cc
      below (x ∷ xs) n k l =
          let same : tree_value (x ∷ xs) ≡ v = cc in
          subst Stands (ap tree_value k ∙ same) (sub_map_stands (c ∷ p) f i n (subst (λ g. T (has_some g)) (sym k) tt))

      by : (o : Option (Leaf Bytes)) → file_at f (c ∷ p) ≡ o → ◌≡◌ {A = Result Shown Fault} (elim o [ Some x ↦ Ok (of_leaf x.0 x.1) | None ↦ of_sub_map (sub_map f (c ∷ p)) ]) (Ok (object v)) → Stands v
      by (Some x) k l = file_stands f (c ∷ p) x.0 x.1 v i k (ok_is (of_leaf x.0 x.1) (object v) l)
      by None k l = below (sub_map f (c ∷ p)) k refl l

  -- ---- what a base gives

  full_is : (vs : List Value) (v : Value) → full_name name vs ≡ Ok v → IsIn vs v
  full_is [] v e = absurd cc
  full_is (w ∷ vs) v e = inl (ok_is w v e)

  one_is : (vs : List Value) (v : Value) → the_one name vs ≡ Ok v → IsIn vs v
  one_is [] v e = absurd cc
  one_is (w ∷ []) v e = inl (ok_is w v e)
  one_is (w ∷ u ∷ vs) v e = absurd cc

  begun_stand : (x : Bytes) (v : Value) → IsIn (begun_by name h x) v → Stands v
  begun_stand x v = filtered _ h.values v

  held_ref : (n : Bytes) (refs : List (Bytes × Target)) (t : Target) → AllByRecursion (λ r. Stands (value_at r.1)) refs → lookup (same_bytes n) refs ≡ Some t → Stands (value_at t)
  held_ref n [] t k e = absurd cc
  held_ref n (r ∷ rs) t k e =
      elim (same_bytes n r.0) as (λ b. cond b (Some r.1) (lookup (same_bytes n) rs) ≡ Some t → Stands (value_at t)) [
        | true ↦ λ l. let same : r.1 ≡ t = cc in subst (λ u. Stands (value_at u)) same k.0
        | false ↦ λ l. held_ref n rs t k.1 l
      ] e

  ref_stands : (ns : List Bytes) (t : Target) → first_ref h ns ≡ Some t → Stands (value_at t)
  ref_stands [] t e = absurd cc
  ref_stands (n ∷ ns) t e = by (ref_at h n) refl e (ref_stands ns t)
    where
      by : (o : Option Target) → ref_at h n ≡ o → option_or o (first_ref h ns) ≡ Some t → (first_ref h ns ≡ Some t → Stands (value_at t)) → Stands (value_at t)
      by (Some u) k l rest = held_ref n h.refs t history.held (k ∙ l)
      by None k l rest = rest l

  base_stands : (x : Bytes) (v : Value) → base_value name h x ≡ Ok v → Stands v
  base_stands x v e = whole_digits (are_digits name x && nat_eq (length x) 40) e
    where
      some_digits : (b : Bool) → cond b (the_one name (begun_by name h x)) (Err fault.UnknownRef) ≡ Ok v → Stands v
      some_digits true k = begun_stand x v (one_is (begun_by name h x) v k)
      some_digits false k = absurd cc

      no_digits : (o : Option Target) → find_ref h x ≡ o → ◌≡◌ {A = Result Value Fault} (elim o [ Some t ↦ Ok (value_at t) | None ↦ cond (are_digits name x && nat_le 4 (length x) && nat_lt (length x) 40) (the_one name (begun_by name h x)) (Err fault.UnknownRef) ]) (Ok v) → Stands v
      no_digits (Some t) l k = subst Stands (ok_is (value_at t) v k) (ref_stands (ref_names x) t l)
      no_digits None l k = some_digits (are_digits name x && nat_le 4 (length x) && nat_lt (length x) 40) k

      whole_digits : (b : Bool) → ◌≡◌ {A = Result Value Fault} (cond b (full_name name (begun_by name h x)) (elim (find_ref h x) [ Some t ↦ Ok (value_at t) | None ↦ cond (are_digits name x && nat_le 4 (length x) && nat_lt (length x) 40) (the_one name (begun_by name h x)) (Err fault.UnknownRef) ])) (Ok v) → Stands v
      whole_digits true k = begun_stand x v (full_is (begun_by name h x) v k)
      whole_digits false k = no_digits (find_ref h x) refl k

  -- ---- what suffixes give

  parts_stand : (v : Value) → Stands v → AllByRecursion Stands (parts v)
  parts_stand v i = parts_in h.values v whole i

  commit_stands : (v : Value) (c : Commit) → Stands v → commit_in v ≡ Ok c → Stands (commit_value c)
  commit_stands (blob_value x) c i e = absurd cc
  commit_stands (tree_value f) c i e = absurd cc
  commit_stands (commit_value d) c i e = subst Stands (ap commit_value (ok_is d c e)) i
  commit_stands (tag_value t) c i e = subst Stands (ap commit_value (ok_is t.target c e)) (parts_stand (tag_value t) i).0

  pub files_stand : (v : Value) (f : FileMap Bytes) → Stands v → files_in v ≡ Ok f → Stands (tree_value f)
  files_stand (blob_value x) f i e = absurd cc
  files_stand (tree_value g) f i e = subst Stands (ap tree_value (ok_is g f e)) i
  files_stand (commit_value c) f i e = subst Stands (ap tree_value (ok_is (files_of c) f e)) (parts_stand (commit_value c) i).0
  files_stand (tag_value t) f i e = subst Stands (ap tree_value (ok_is (files_of t.target) f e)) (parts_stand (commit_value t.target) (parts_stand (tag_value t) i).0).0

  peel_stands : (v : Value) → Stands v → Stands (peel v)
  peel_stands (blob_value x) i = i
  peel_stands (tree_value f) i = i
  peel_stands (commit_value c) i = i
  peel_stands (tag_value t) i = (parts_stand (tag_value t) i).0

  nth_stands : (cs : List Commit) (n : ℕ) (d : Commit) → AllByRecursion Stands (map commit_value cs) → slice_get cs n ≡ Some d → Stands (commit_value d)
  nth_stands [] n d k e = absurd cc
  nth_stands (c ∷ cs) zero d k e = let same : c ≡ d = cc in subst (λ u. Stands (commit_value u)) same k.0
  nth_stands (c ∷ cs) (suc n) d k e = nth_stands cs n d k.1 e

  parent_stands : (n : ℕ) (c d : Commit) → Stands (commit_value c) → nth_parent n c ≡ Ok d → Stands (commit_value d)
  parent_stands zero c d i e = subst Stands (ap commit_value (ok_is c d e)) i
  parent_stands (suc n) c d i e = by (slice_get (list_of (parents_of c)) n) refl e
    where
      by : (o : Option Commit) → slice_get (list_of (parents_of c)) n ≡ o → ok_or o fault.NoParent ≡ Ok d → Stands (commit_value d)
      by None k l = absurd cc
      by (Some u) k l = nth_stands (list_of (parents_of c)) n d (parts_stand (commit_value c) i).1 (k ∙ ap Some (ok_is u d l))

  ancestor_stands : (n : ℕ) (c d : Commit) → Stands (commit_value c) → nth_ancestor n c ≡ Ok d → Stands (commit_value d)
  ancestor_stands zero c d i e = subst Stands (ap commit_value (ok_is c d e)) i
  ancestor_stands (suc n) c d i e = let g = both_gave (nth_parent 1 c) (nth_ancestor n) d e in ancestor_stands n g.0 d (parent_stands 1 c g.0 i g.1) g.2

  only_commit_is : (v w : Value) → only_commit v ≡ Ok w → v ≡ w
  only_commit_is (blob_value x) w e = absurd cc
  only_commit_is (tree_value f) w e = absurd cc
  only_commit_is (commit_value c) w e = ok_is (commit_value c) w e
  only_commit_is (tag_value t) w e = absurd cc

  only_blob_is : (v w : Value) → only_blob v ≡ Ok w → v ≡ w
  only_blob_is (blob_value x) w e = ok_is (blob_value x) w e
  only_blob_is (tree_value f) w e = absurd cc
  only_blob_is (commit_value c) w e = absurd cc
  only_blob_is (tag_value t) w e = absurd cc

  only_tag_is : (v w : Value) → only_tag v ≡ Ok w → v ≡ w
  only_tag_is (blob_value x) w e = absurd cc
  only_tag_is (tree_value f) w e = absurd cc
  only_tag_is (commit_value c) w e = absurd cc
  only_tag_is (tag_value t) w e = ok_is (tag_value t) w e

  suffixed_stands : (v : Value) (s : Suffix) (w : Value) → Stands v → suffixed v s ≡ Ok w → Stands w
  suffixed_stands v (parent n) w i e =
      let g = both_gave (commit_in v) (λ c. nth_parent n c >>= λ d. Ok (commit_value d)) w e in
      let k = both_gave (nth_parent n g.0) (λ d. Ok (commit_value d)) w g.2 in
      subst Stands (ok_is (commit_value k.0) w k.2) (parent_stands n g.0 k.0 (commit_stands v g.0 i g.1) k.1)
  suffixed_stands v (ancestor n) w i e =
      let g = both_gave (commit_in v) (λ c. nth_ancestor n c >>= λ d. Ok (commit_value d)) w e in
      let k = both_gave (nth_ancestor n g.0) (λ d. Ok (commit_value d)) w g.2 in
      subst Stands (ok_is (commit_value k.0) w k.2) (ancestor_stands n g.0 k.0 (commit_stands v g.0 i g.1) k.1)
  suffixed_stands v peeled w i e = subst Stands (ok_is (peel v) w e) (peel_stands v i)
  suffixed_stands v itself w i e = subst Stands (ok_is v w e) i
  suffixed_stands v as_commit w i e = subst Stands (only_commit_is (peel v) w e) (peel_stands v i)
  suffixed_stands v as_blob w i e = subst Stands (only_blob_is (peel v) w e) (peel_stands v i)
  suffixed_stands v as_tree w i e =
      let g = both_gave (files_in v) (λ f. Ok (tree_value f)) w e in
      subst Stands (ok_is (tree_value g.0) w g.2) (files_stand v g.0 i g.1)
  suffixed_stands v as_tag w i e = subst Stands (only_tag_is v w e) i

  all_suffixed_stands : (v : Value) (ss : List Suffix) (w : Value) → Stands v → all_suffixed v ss ≡ Ok w → Stands w
  all_suffixed_stands v [] w i e = subst Stands (ok_is v w e) i
  all_suffixed_stands v (s ∷ ss) w i e = let g = both_gave (suffixed v s) (λ u. all_suffixed u ss) w e in all_suffixed_stands g.0 ss w (suffixed_stands v s g.0 i g.1) g.2

  shown_stands : (v : Value) (p : Option Path) (w : Value) → Stands v → shown_at v p ≡ Ok (object w) → Stands w
  shown_stands v None w i e = let same : v ≡ w = cc in subst Stands same i
  shown_stands v (Some p) w i e = let g = both_gave (files_in v) (λ f. at_path f p) (object w) e in path_stands g.0 p w (files_stand v g.0 i g.1) g.2

  denoted_stands : (a : Revision) (w : Value) → denoted name h a ≡ Ok (object w) → Stands w
  unfolding denoted
  denoted_stands a w e =
      let g = both_gave (base_value name h a.base) (λ v. all_suffixed v a.suffixes >>= λ u. shown_at u a.path) (object w) e in
      let k = both_gave (all_suffixed g.0 a.suffixes) (λ u. shown_at u a.path) (object w) g.2 in
      shown_stands k.0 a.path w (all_suffixed_stands g.0 a.suffixes k.0 (base_stands a.base g.0 g.1) k.1) k.2

module _ (name : Kind → Bytes → Bytes) (namer : IsNamer name) (r : Records) (sound : IsSound name r) where
  apart : AreDistinct (map (name_of name) (history_of r).values)
  apart = distinct_of name namer r (history_of r) (stands name namer r sound)

  -- a value that a revision gives stands in the history
  pub held_value : (a : Revision) (v : Value) → denoted name (history_of r) a ≡ Ok (object v) → IsIn (history_of r).values v
  held_value a v e = denoted_stands name namer (history_of r) (stands name namer r sound).history apart a v e

  -- what two revisions give is one where it is answered alike
  pub one_answer : (a b : Revision) (s t : Shown) → denoted name (history_of r) a ≡ Ok s → denoted name (history_of r) b ≡ Ok t → AreOneAnswer name s t ↔ (s ≡ t)
  one_answer a b (object v) (object w) e f = (
    λ q. ap object (told_by_name name namer (history_of r).values apart v w (held_value a v e) (held_value b w f) q.1),
    λ k. let same : v ≡ w = cc in (ap (kind_of name) same, ap (name_of name) same),
  )
  one_answer a b (object v) (submodule y) e f = (λ q. absurd q, λ k. absurd cc)
  one_answer a b (submodule x) (object w) e f = (λ q. absurd q, λ k. absurd cc)
  one_answer a b (submodule x) (submodule y) e f = (λ q. ap submodule q, λ k. cc)
