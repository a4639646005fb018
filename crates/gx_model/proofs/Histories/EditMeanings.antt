-- What is found after an edit of a file map, and when one is refused.
use Rattle.std.proofs.Common.{◌≡◌, Bool, true, false, cond, refl, sym, ap, subst, ◌∙◌, [], ◌∷◌, ◌++◌, length, drop, append-nil, Option, None, Some, Ok, Err}
use Rattle.std.specs.Prelude.{T, not, ◌&&◌, ◌||◌, ◌≢◌, ◌↔◌, is_some, IfOk}
use Rattle.std.specs.List.{list_all}
use Rattle.std.specs.Bool.{passes}
use Rattle.std.specs.FinMap.Entries.{put}
use Rattle.gx_model.specs.declared.faults.Fault.{Fault}
use Rattle.gx_model.specs.declared.faults.Fault.TheVariants.{NoSuchPath, RootNotTree, PathTooLong}
use Rattle.gx_model.specs.Texts.{Bytes}
use Rattle.gx_model.specs.Texts.Paths.{Path, are_in_line, begins, is_component, is_file_path, is_short, path_cmp, same_path}
use Rattle.gx_model.specs.Histories.Files.{FileMap, Leaf, are_file_paths, file_at, under}
use Rattle.gx_model.specs.Histories.Edits.{copied, copy_fault, is_root, modified, moved, removed, renamed, with_all, without, without_line}
use Rattle.gx_model.specs.Faults.{unless}
use Rattle.gx_model.specs.Laws.FileMapLaws.{HasLongPath, IsFileForRoot, IsModified, IsPlaced, IsRefusal, IsRemoved}
use Rattle.gx_model.proofs.Texts.PathTests.{begins_append, both, first, is_same, is_true, left_or, not_both, path_is, path_same, right_or, same_is, second}
use Rattle.gx_model.proofs.Histories.FileMapEdits.{Parts, filter_parts, moved_paths, removed_parts}
use Rattle.gx_model.proofs.Histories.FoundFiles.{at_filter, at_moved, at_put, at_with_all, none_moved, none_where, or_nothing, test_at}
use Rattle.std.specs.Option.{option_or}

-- ---- paths in line

-- two paths that begin each other are one
begin_each_other : (p q : Path) → T (begins p q) → T (begins q p) → p ≡ q
begin_each_other [] [] h g = refl
begin_each_other [] (d ∷ q) h g = absurd g
begin_each_other (c ∷ p) [] h g = absurd h
begin_each_other (c ∷ p) (d ∷ q) h g = λ i. same_is c d (first _ _ h) i ∷ begin_each_other p q (second _ _ h) (second _ _ g) i

other_path : (p q : Path) → p ≢ q → same_path q p ≡ false
other_path p q n = by (same_path q p) refl
  where
    by : (b : Bool) → same_path q p ≡ b → b ≡ false
    by true k = absurd (n (sym (path_is q p (passes _ k))))
    by false k = refl

-- a path isn't in line with one that it isn't in line with, and so isn't that one
apart_path : (p q : Path) → are_in_line p q ≡ false → same_path q p ≡ false
apart_path p q n = other_path p q (λ e. let k = sym (is_true _ (subst (λ r. T (are_in_line p r)) e (left_or (begins p p) (begins p p) (itself p)))) ∙ n in cc)
  where
    itself : (p : Path) → T (begins p p)
    itself [] = tt
    itself (c ∷ p) = both _ _ (is_same c c refl) (itself p)

not_begun : (p q : Path) → are_in_line p q ≡ false → begins p q ≡ false
not_begun p q n = by (begins p q) (begins q p) n
  where
    by : (a b : Bool) → (a || b) ≡ false → a ≡ false
    by true b k = k
    by false b k = refl

-- ---- what is found

module _ (es : FileMap Bytes) where
  removed_means : (p : Path) → IsRemoved es p (removed es p)
  removed_means p = record {
    there = λ q h. at_filter (λ r. not (begins p r)) es q ∙ ap (λ b. cond (not b) (file_at es q) None) h;
    elsewhere = λ q h. at_filter (λ r. not (begins p r)) es q ∙ ap (λ b. cond (not b) (file_at es q) None) h;
  }

  left_of_line : (p q : Path) → file_at (without_line p es) q ≡ cond (not (are_in_line p q)) (file_at es q) None
  left_of_line p q = at_filter (λ r. not (are_in_line p r)) es q

  modified_means : (c : Bytes) (p : Path) (x : Leaf Bytes) → T (is_file_path (c ∷ p)) → Parts es → IsModified es (c ∷ p) x (put path_cmp (c ∷ p) x (without_line (c ∷ p) es))
  modified_means c p x f h =
      let at : (q : Path) → file_at (put path_cmp (c ∷ p) x (without_line (c ∷ p) es)) q ≡ cond (same_path q (c ∷ p)) (Some x) (cond (not (are_in_line (c ∷ p) q)) (file_at es q) None) =
      λ q. at_put (c ∷ p) x (without_line (c ∷ p) es) q f (filter_parts (λ r. not (are_in_line (c ∷ p) r)) es h).paths ∙ ap (cond (same_path q (c ∷ p)) (Some x)) (left_of_line (c ∷ p) q) in
      record {
        there = at (c ∷ p) ∙ ap (λ b. cond b (Some x) (cond (not (are_in_line (c ∷ p) (c ∷ p))) (file_at es (c ∷ p)) None)) (is_true _ (path_same (c ∷ p)));
        in_line = λ q i n. at q ∙ (λ j. cond (other_path (c ∷ p) q n j) (Some x) (cond (not (i j)) (file_at es q) None));
        elsewhere = λ q i. at q ∙ (λ j. cond (apart_path (c ∷ p) q i j) (Some x) (cond (not (i j)) (file_at es q) None));
      }

placed_means : (es rest : FileMap Bytes) (s d : Path) → T (are_file_paths (moved s d (under s es))) → Parts rest → IsPlaced es rest s d (with_all (moved s d (under s es)) (without_line d rest))
placed_means es rest s d f h =
    let new = moved s d (under s es) in
    let at : (q : Path) → file_at (with_all new (without_line d rest)) q ≡ option_or (file_at new q) (cond (not (are_in_line d q)) (file_at rest q) None) =
    λ q. at_with_all new (without_line d rest) q f (filter_parts (λ r. not (are_in_line d r)) rest h).paths ∙ ap (option_or (file_at new q)) (left_of_line rest d q) in
    record {
      there = λ p.
          at (d ++ p)
          ∙ (λ i. option_or (at_moved s d es p i) (cond (not (is_true _ (left_or (begins d (d ++ p)) (begins (d ++ p) d) (begins_append d p)) i)) (file_at rest (d ++ p)) None))
          ∙ or_nothing (file_at es (s ++ p));
      above = λ q h n.
          at q
          ∙ (λ i. option_or (none_moved s d (under s es) q (λ k. n (begin_each_other d q k (passes _ h))) i) (cond (not (is_true _ (right_or (begins d q) (begins q d) (passes _ h)) i)) (file_at rest q) None));
      elsewhere = λ q h.
          at q
          ∙ (λ i. option_or (none_moved s d (under s es) q (λ k. let m = sym (is_true _ k) ∙ not_begun d q h in cc) i) (cond (not (h i)) (file_at rest q) None));
    }

-- ---- what is refused

rejoined : (s p : Path) → T (begins s p) → s ++ drop (length s) p ≡ p
rejoined [] p h = refl
rejoined (c ∷ s) [] h = absurd h
rejoined (c ∷ s) (d ∷ p) h = λ i. same_is c d (first _ _ h) i ∷ rejoined s p (second _ _ h) i

pub found_first : (e : Path × Leaf Bytes) (es : FileMap Bytes) (p : Path) → p ≡ e.0 → is_some (file_at (e ∷ es) p) ≡ true
found_first e es p h = ap (λ b. is_some (cond b (Some e.1) (file_at es p))) (is_true _ (subst (λ (q : Path). T (same_path p q)) h (path_same p)))

pub found_later : (e : Path × Leaf Bytes) (es : FileMap Bytes) (p : Path) → is_some (file_at es p) ≡ true → is_some (file_at (e ∷ es) p) ≡ true
found_later e es p h = elim (same_path p e.0) as (λ b. is_some (cond b (Some e.1) (file_at es p)) ≡ true) [ true ↦ refl | false ↦ h ]

module _ (s d : Path) where
  none_under : (es : FileMap Bytes) → T (list_all (λ e. not (begins s e.0)) es) → (p : Path) → file_at es (s ++ p) ≡ None
  none_under es h p = none_where (λ q. not (begins s q)) es (s ++ p) h (λ k. not_both (begins s (s ++ p)) k (begins_append s p))

  some_under : (es : FileMap Bytes) → list_all (λ e. not (begins s e.0)) es ≡ false → (p : Path) × (is_some (file_at es (s ++ p)) ≡ true)
  some_under [] h = absurd cc
  some_under (e ∷ es) h =
      elim (begins s e.0) as (λ b. begins s e.0 ≡ b → (not b && list_all (λ f. not (begins s f.0)) es) ≡ false → (p : Path) × (is_some (file_at (e ∷ es) (s ++ p)) ≡ true)) [
        | true ↦ λ k _. (drop (length s) e.0, found_first e es _ (rejoined s e.0 (passes _ k)))
        | false ↦ λ k i. let rest = some_under es i in (rest.0, found_later e es (s ++ rest.0) rest.1)
      ] refl h

  some_long : (es : FileMap Bytes) → list_all (λ e. is_short e.0) (moved s d (under s es)) ≡ false → HasLongPath es s d
  some_long [] h = absurd cc
  some_long (e ∷ es) h =
      elim (begins s e.0) as (λ b. begins s e.0 ≡ b → list_all (λ f. is_short f.0) (moved s d (cond b (e ∷ under s es) (under s es))) ≡ false → HasLongPath (e ∷ es) s d) [
        | true ↦ λ k i. elim (is_short (d ++ drop (length s) e.0)) as (λ b. is_short (d ++ drop (length s) e.0) ≡ b → (b && list_all (λ f. is_short f.0) (moved s d (under s es))) ≡ false → HasLongPath (e ∷ es) s d) [
          | true ↦ λ l j. later (some_long es j)
          | false ↦ λ l j. (drop (length s) e.0, found_first e es _ (rejoined s e.0 (passes _ k)), l)
        ] refl i
        | false ↦ λ k i. later (some_long es i)
      ] refl h
    where
      later : HasLongPath es s d → HasLongPath (e ∷ es) s d
      later l = (l.0, found_later e es (s ++ l.0) l.1, l.2)

  none_long : (es : FileMap Bytes) → list_all (λ e. is_short e.0) (moved s d (under s es)) ≡ true → HasLongPath es s d → ⊥
  none_long es h l =
      let found = passes _ (ap is_some (at_moved s d es l.0) ∙ l.1) in
      let short = is_true _ (test_at is_short (moved s d (under s es)) (d ++ l.0) (passes _ h) found) in
      let k = sym short ∙ l.2 in cc

  the_root : (es : FileMap Bytes) (p : Path) → (is_some (file_at es s) && is_root p) ≡ true → IsFileForRoot es s p
  the_root es [] h = (is_true _ (first (is_some (file_at es s)) true (passes _ h)), refl)
  the_root es (c ∷ p) h = absurd (second (is_some (file_at es s)) false (passes _ h))

  at_root : (es : FileMap Bytes) (p : Path) → IsFileForRoot es s p → (is_some (file_at es s) && is_root p) ≡ true
  at_root es p h = (λ i. h.0 i && is_root (h.1 i))

  abbrev fault_by : Bool → Bool → Bool → Option Fault
  fault_by none root short = cond none (Some NoSuchPath) (cond root (Some RootNotTree) (cond short None (Some PathTooLong)))

  refusal_of : (es : FileMap Bytes) (f : Fault) → copy_fault es s d ≡ Some f → IsRefusal es s d f
  refusal_of es f = by (list_all (λ e. not (begins s e.0)) es) (is_some (file_at es s) && is_root d) (list_all (λ e. is_short e.0) (moved s d (under s es))) refl refl refl
    where
      is_this : (g : Fault) → Some g ≡ Some f → IsRefusal es s d g → IsRefusal es s d f
      is_this g e h = let same : g ≡ f = cc in subst (IsRefusal es s d) same h

      by : (none root short : Bool) → list_all (λ e. not (begins s e.0)) es ≡ none → (is_some (file_at es s) && is_root d) ≡ root → list_all (λ e. is_short e.0) (moved s d (under s es)) ≡ short
          → fault_by none root short ≡ Some f → IsRefusal es s d f
      by true root short a b c e = is_this NoSuchPath e (none_under es (passes _ a))
      by false true short a b c e = is_this RootNotTree e (the_root es d b)
      by false false true a b c e = absurd cc
      by false false false a b c e = is_this PathTooLong e ((λ h. let k = sym (at_root es d h) ∙ b in cc), some_long es c)

  something : (es : FileMap Bytes) (p : Path) → is_some (file_at es (s ++ p)) ≡ true → list_all (λ e. not (begins s e.0)) es ≡ false
  something es p h = by (list_all (λ e. not (begins s e.0)) es) refl
    where
      by : (b : Bool) → list_all (λ e. not (begins s e.0)) es ≡ b → b ≡ false
      by false k = refl
      by true k = let l = sym h ∙ ap is_some (none_under es (passes _ k) p) in cc

  fault_of : (es : FileMap Bytes) (f : Fault) → IsRefusal es s d f → copy_fault es s d ≡ Some f
  fault_of es NoSuchPath h = by (list_all (λ e. not (begins s e.0)) es) refl
    where
      by : (b : Bool) → list_all (λ e. not (begins s e.0)) es ≡ b → copy_fault es s d ≡ Some NoSuchPath
      by true k = ap (λ b. fault_by b (is_some (file_at es s) && is_root d) (list_all (λ e. is_short e.0) (moved s d (under s es)))) k
      by false k = let r = some_under es k in let l = sym r.1 ∙ ap is_some (h r.0) in absurd cc
  fault_of es RootNotTree h =
      λ i. fault_by (something es [] (ap (λ (p : Path). is_some (file_at es p)) (append-nil s) ∙ h.0) i) (at_root es d h i) (list_all (λ e. is_short e.0) (moved s d (under s es)))
  fault_of es PathTooLong h =
      λ i. fault_by (something es h.1.0 h.1.1 i) (no_root (is_some (file_at es s) && is_root d) refl i) (long (list_all (λ e. is_short e.0) (moved s d (under s es))) refl i)
    where
      no_root : (b : Bool) → (is_some (file_at es s) && is_root d) ≡ b → (is_some (file_at es s) && is_root d) ≡ false
      no_root true k = absurd (h.0 (the_root es d k))
      no_root false k = k

      long : (b : Bool) → list_all (λ e. is_short e.0) (moved s d (under s es)) ≡ b → list_all (λ e. is_short e.0) (moved s d (under s es)) ≡ false
      long true k = absurd (none_long es k h.1)
      long false k = k
  fault_of es _ h = absurd h

or_fault_is : (o : Option Fault) (fs : FileMap Bytes) (f : Fault) → (unless o fs ≡ Err f) ↔ (o ≡ Some f)
or_fault_is None fs f = ((λ e. absurd cc), (λ e. absurd cc))
or_fault_is (Some g) fs f = ((λ e. let same : g ≡ f = cc in ap Some same), (λ e. let same : g ≡ f = cc in ap (λ h. Err h) same))

refused : (es fs : FileMap Bytes) (s d : Path) (f : Fault) → (unless (copy_fault es s d) fs ≡ Err f) ↔ IsRefusal es s d f
refused es fs s d f =
    let told = or_fault_is (copy_fault es s d) fs f in
    ((λ e. refusal_of s d es f (told.0 e)), (λ h. told.1 (fault_of s d es f h)))

-- ---- the edits

granted : (P : FileMap Bytes → Type 0) (o : Option Fault) (fs : FileMap Bytes) → (o ≡ None → P fs) → IfOk (unless o fs) P
granted P None fs h = h refl
granted P (Some f) fs h = tt

-- a modify is never refused, and puts its leaf
pub modify_means : (es : FileMap Bytes) (p : Path) (x : Leaf Bytes) → Parts es → T (is_file_path p) → (fs : FileMap Bytes) × (modified es p x ≡ Ok fs) × IsModified es p x fs
modify_means es [] x h f = absurd f
modify_means es (c ∷ p) x h f = (put path_cmp (c ∷ p) x (without_line (c ∷ p) es), refl, modified_means es c p x f h)

-- a remove takes out what is at or below its path
pub remove_means : (es : FileMap Bytes) (p : Path) → IsRemoved es p (removed es p)
remove_means = removed_means

-- a copy that isn't refused places what its source has
pub copy_means : (es : FileMap Bytes) (s d : Path) → Parts es → T (list_all is_component d) → IfOk (copied es s d) (IsPlaced es es s d)
copy_means es s d h k = granted (IsPlaced es es s d) (copy_fault es s d) _ (λ n. placed_means es es s d (moved_paths s d es k h.paths n) h)

-- a rename that isn't refused places what its source has, in what is left without it
pub rename_means : (es : FileMap Bytes) (s d : Path) → Parts es → T (list_all is_component d) → IfOk (renamed es s d) (IsPlaced es (removed es s) s d)
rename_means es s d h k = granted (IsPlaced es (removed es s) s d) (copy_fault es s d) _ (λ n. placed_means es (without s es) s d (moved_paths s d es k h.paths n) (removed_parts es s h))

-- a copy is refused for the stated causes, and for no other
pub copy_refused : (es : FileMap Bytes) (s d : Path) (f : Fault) → (copied es s d ≡ Err f) ↔ IsRefusal es s d f
copy_refused es s d f = refused es _ s d f

-- a rename is refused for the stated causes, and for no other
pub rename_refused : (es : FileMap Bytes) (s d : Path) (f : Fault) → (renamed es s d ≡ Err f) ↔ IsRefusal es s d f
rename_refused es s d f = refused es _ s d f
