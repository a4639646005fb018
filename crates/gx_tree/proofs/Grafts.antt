-- Files put at a path together, by one directory's entries.
use Rattle.std.proofs.Common.{◌≡◌, ◌≢◌, Bool, true, false, cond, [], ◌∷◌, ◌++◌, Option, Some, None, inl, inr, refl, sym, ap, ◌∙◌}
use Rattle.std.specs.List.{list_all}
use Rattle.std.proofs.lemmas.Bool.{and_from, and_parts}
use Rattle.std.proofs.lemmas.List.Folds.{list_all-append}
use Rattle.gx_model.specs.Texts.{Bytes, same_bytes}
use Rattle.gx_model.specs.Texts.Paths.{Path, is_component, same_path}
use Rattle.gx_model.specs.Histories.Files.{FileMap, Leaf, file_at}
use Rattle.gx_model.specs.Histories.Edits.{with_all, without_line}
use Rattle.gx_tree.specs.Nodes.{Kept, Level, IsInner, IsKept, IsKeptAt, IsLevel, file, files, folder, is_inner_path, kept_at, kept_map, map_if, with_kept}
use Rattle.gx_tree.specs.Lists.{below}
use Rattle.gx_tree.specs.Steps.{files_of, grafted, kept_grafted}
use Rattle.gx_tree.proofs.Texts.{bytes_same, cases_bytes, same_bytes_flip}
use Rattle.gx_tree.proofs.Lookups.{AreInner, IsSorted, all-filter, all-put, either, either_cond, either_none, file_at-filter, file_at-put, sorted-filter, sorted-put}
use Rattle.gx_tree.proofs.Levels.{IsInner-files, IsLevel-with_kept, kept_at-with_kept}
use Rattle.gx_tree.proofs.Below.{IsKeptAt-kept_at, file_at-files}
use Rattle.gx_tree.proofs.EditLaws.{IsInner-files_of, is_beside, put_some, same_files}

-- q with the front p taken off, where it begins with p
abbrev pub taken : Path → Path → Option Path
taken [] q = Some q
taken (c ∷ p) [] = None
taken (c ∷ p) (d ∷ q) = cond (same_bytes c d) (taken p q) None

abbrev pub found_in : Option Path → FileMap Bytes → Option (Leaf Bytes)
found_in None g = None
found_in (Some q) g = file_at g q

found_nowhere : (o : Option Path) → found_in o [] ≡ None
found_nowhere None = refl
found_nowhere (Some q) = refl

one_more : (p q : Path) (e : Path × Leaf Bytes) (g : FileMap Bytes) (y : Option (Leaf Bytes)) → either (found_in (taken p q) (e ∷ g)) y ≡ cond (same_path q (p ++ e.0)) (Some e.1) (either (found_in (taken p q) g) y)
one_more [] q e g y = either_cond (same_path q e.0) e.1 (file_at g q) y
one_more (c ∷ p) [] e g y = refl
one_more (c ∷ p) (d ∷ q) e g y = elim (cases_bytes c d) [
  | inl s ↦ rw (bytes_same c d s, bytes_same d c (sym s)) (one_more p q e g y)
  | inr n ↦ rw (n, same_bytes_flip d c, n) refl
]

all-with_all : (t : Path → Bool) (g f : FileMap Bytes) → list_all (λ e. t e.0) g ≡ true → list_all (λ e. t e.0) f ≡ true → list_all (λ e. t e.0) (with_all g f) ≡ true
all-with_all t [] f h k = k
all-with_all t (e ∷ g) f h k = all-put t e.0 e.1 (with_all g f) (and_parts _ _ h).0 (all-with_all t g f (and_parts _ _ h).1 k)

sorted-with_all : (g f : FileMap Bytes) → IsSorted f → IsSorted (with_all g f)
sorted-with_all [] f h = h
sorted-with_all (e ∷ g) f h = sorted-put e.0 e.1 (with_all g f) (sorted-with_all g f h)

-- what stands at q once the files of g stand below p
file_at-with_all : (p q : Path) (g f : FileMap Bytes) → AreInner (below p g) → AreInner f → file_at (with_all (below p g) f) q ≡ either (found_in (taken p q) g) (file_at f q)
file_at-with_all p q [] f h k = rw (found_nowhere (taken p q)) refl
file_at-with_all p q (e ∷ g) f h k =
    file_at-put (p ++ e.0) q e.1 (with_all (below p g) f) (and_parts _ _ h).0 (all-with_all is_inner_path (below p g) f (and_parts _ _ h).1 k)
    ∙ ap (cond (same_path q (p ++ e.0)) (Some e.1)) (file_at-with_all p q g f (and_parts _ _ h).1 k)
    ∙ sym (one_more p q e g (file_at f q))

beside_inner : (p : Path) (f : FileMap Bytes) → AreInner f → AreInner (without_line p f)
beside_inner p f h = all-filter (λ e. is_inner_path e.0) (λ e. is_beside p e.0) f h

pub file_at-grafted : (p q : Path) (g f : FileMap Bytes) → AreInner (below p g) → AreInner f → file_at (grafted p g f) q ≡ either (found_in (taken p q) g) (cond (is_beside p q) (file_at f q) None)
file_at-grafted p q g f h k = file_at-with_all p q g (without_line p f) h (beside_inner p f k) ∙ ap (either (found_in (taken p q) g)) (file_at-filter (is_beside p) q f)

pub IsInner-grafted : (p : Path) (g f : FileMap Bytes) → AreInner (below p g) → IsInner f → IsInner (grafted p g f)
IsInner-grafted p g f h k = record {
  paths = all-with_all is_inner_path (below p g) (without_line p f) h (beside_inner p f k.paths);
  sorted = sorted-with_all (below p g) (without_line p f) (sorted-filter (is_beside p) f k.sorted);
}

pub grafted_some : (p : Path) (g f : FileMap Bytes) → (g ≢ []) → grafted p g f ≢ []
grafted_some p [] f n = absurd (n refl)
grafted_some p (e ∷ g) f n = put_some (p ++ e.0) e.1 (with_all (below p g) (without_line p f))

-- ---- what is kept may stand at a path

components_of : (p : Path) → is_inner_path p ≡ true → list_all is_component p ≡ true
components_of [] h = refl
components_of (c ∷ p) h = h

inner_below : (c : Bytes) (p : Path) (g : FileMap Bytes) → is_inner_path (c ∷ p) ≡ true → AreInner g → AreInner (below (c ∷ p) g)
inner_below c p [] hp h = refl
inner_below c p (e ∷ g) hp h = and_from _ _ (list_all-append is_component (c ∷ p) e.0 ∙ and_from _ _ hp (components_of e.0 (and_parts _ _ h).0)) (inner_below c p g hp (and_parts _ _ h).1)

pub kept_below : (c : Bytes) (p : Path) (k : Kept) → is_inner_path (c ∷ p) ≡ true → IsKept k → AreInner (below (c ∷ p) (kept_map k))
kept_below c p (file x) hp h = and_from _ _ (list_all-append is_component (c ∷ p) [] ∙ and_from _ _ hp refl) refl
kept_below c p (folder f) hp h = inner_below c p f hp h.1.paths

pub kept_some : (k : Kept) → IsKept k → kept_map k ≢ []
kept_some (file x) h = λ e. cc
kept_some (folder f) h = h.0

pub IsKept-grafted : (p : Path) (k : Kept) (o : Option Kept) → list_all is_component p ≡ true → IsKept k → IsKeptAt o → IsKept (kept_grafted p k o)
IsKept-grafted [] k o hp hk h = hk
IsKept-grafted (c ∷ p) k o hp hk h = (grafted_some (c ∷ p) (kept_map k) (files_of o) (kept_some k hk), IsInner-grafted (c ∷ p) (kept_map k) (files_of o) (kept_below c p k hp hk) (IsInner-files_of o h))

-- ---- below the path's first component

grafted_below : (p q : Path) (k : Kept) (o : Option Kept) → list_all is_component p ≡ true → IsKept k → IsKeptAt o → either (found_in (taken p q) (kept_map k)) (cond (is_beside p q) (file_at (map_if o) q) None) ≡ file_at (kept_map (kept_grafted p k o)) q
grafted_below [] q k o hp hk h = either_none (file_at (kept_map k) q)
grafted_below (d ∷ p) q k None hp hk h = sym (file_at-grafted (d ∷ p) q (kept_map k) [] (kept_below d p k hp hk) refl)
grafted_below (d ∷ p) [] k (Some (file y)) hp hk h = sym (file_at-grafted (d ∷ p) [] (kept_map k) [] (kept_below d p k hp hk) refl)
grafted_below (d ∷ p) (e ∷ q) k (Some (file y)) hp hk h = sym (file_at-grafted (d ∷ p) (e ∷ q) (kept_map k) [] (kept_below d p k hp hk) refl)
grafted_below (d ∷ p) q k (Some (folder f)) hp hk h = sym (file_at-grafted (d ∷ p) q (kept_map k) f (kept_below d p k hp hk) h.1.paths)

grafted_at : (c d : Bytes) (p q : Path) (k : Kept) (es : Level) → is_inner_path (c ∷ p) ≡ true → IsKept k → IsLevel es → IsLevel (with_kept c (kept_grafted p k (kept_at c es)) es) → file_at (grafted (c ∷ p) (kept_map k) (files es)) (d ∷ q) ≡ file_at (files (with_kept c (kept_grafted p k (kept_at c es)) es)) (d ∷ q)
grafted_at c d p q k es hp hk h g =
    let l = file_at-grafted (c ∷ p) (d ∷ q) (kept_map k) (files es) (kept_below c p k hp hk) (IsInner-files es h).paths in
    elim (cases_bytes d c) [
      | inl s ↦
          let a = bytes_same d c s in let b = bytes_same c d (sym s) in
          rw (l, file_at-files d q es h, file_at-files d q _ g, kept_at-with_kept c d (kept_grafted p k (kept_at c es)) es, a, b)
          (ap (λ o. either (found_in (taken p q) (kept_map k)) (cond (is_beside p q) (file_at (map_if o) q) None)) (ap (λ y. kept_at y es) s)
          ∙ grafted_below p q k (kept_at c es) (and_parts _ _ hp).1 hk (IsKeptAt-kept_at c es h))
      | inr n ↦
          let m : same_bytes c d ≡ false = same_bytes_flip c d ∙ n in
          rw (l, file_at-files d q es h, file_at-files d q _ g, kept_at-with_kept c d (kept_grafted p k (kept_at c es)) es, n, m) refl
    ]

pub IsLevel-grafted : (c : Bytes) (p : Path) (k : Kept) (es : Level) → is_inner_path (c ∷ p) ≡ true → IsKept k → IsLevel es → IsLevel (with_kept c (kept_grafted p k (kept_at c es)) es)
IsLevel-grafted c p k es hp hk h = IsLevel-with_kept c (kept_grafted p k (kept_at c es)) es (and_parts _ _ hp).0 (IsKept-grafted p k (kept_at c es) (and_parts _ _ hp).1 hk (IsKeptAt-kept_at c es h)) h

-- to put files at a path is to put them at the rest of the path, below its first component
pub grafted_files : (c : Bytes) (p : Path) (k : Kept) (es : Level) → is_inner_path (c ∷ p) ≡ true → IsKept k → IsLevel es → grafted (c ∷ p) (kept_map k) (files es) ≡ files (with_kept c (kept_grafted p k (kept_at c es)) es)
grafted_files c p k es hp hk h =
    let g = IsLevel-grafted c p k es hp hk h in
    same_files (grafted (c ∷ p) (kept_map k) (files es)) (files (with_kept c (kept_grafted p k (kept_at c es)) es))
    (IsInner-grafted (c ∷ p) (kept_map k) (files es) (kept_below c p k hp hk) (IsInner-files es h)) (IsInner-files (with_kept c (kept_grafted p k (kept_at c es)) es) g) (λ d q. grafted_at c d p q k es hp hk h g)
