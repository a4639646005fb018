-- The edits of a file map, by one directory's entries.
use Rattle.std.proofs.Common.{◌≡◌, ◌≢◌, Bool, true, false, cond, not, [], ◌∷◌, Option, Some, None, inl, inr, refl, sym, ap, ◌∙◌}
use Rattle.std.specs.declared.cmp.Ordering.TheVariants.{Less, Equal, Greater}
use Rattle.std.specs.FinMap.Entries.{by_order, put}
use Rattle.gx_model.specs.Texts.{Bytes, same_bytes}
use Rattle.gx_model.specs.Texts.Paths.{Path, are_in_line, begins, is_component, path_cmp}
use Rattle.gx_model.specs.Histories.Files.{FileMap, Leaf, file_at}
use Rattle.gx_model.specs.Histories.Edits.{removed}
use Rattle.gx_tree.specs.Nodes.{Kept, Level, IsInner, IsKeptAt, IsLevel, file, files, folder, is_inner_path, kept_at, map_if}
use Rattle.gx_tree.specs.Steps.{files_of, folder_if_any, kept_removed, replaced}
use Rattle.gx_tree.proofs.Texts.{bytes_same, cases_bytes, same_bytes_flip}
use Rattle.gx_tree.proofs.Lookups.{all-filter, file_at-filter, no_root, same_maps, sorted-filter}
use Rattle.gx_tree.proofs.Levels.{IsInner-files, IsLevel-others, IsLevel-with_kept, kept_at-others, kept_at-with_kept}
use Rattle.gx_tree.proofs.Below.{IsKeptAt-kept_at, file_at-files}

abbrev pub is_beside : Path → Path → Bool
is_beside p q = not (are_in_line p q)

pub cond_none : {X : Type 0} (b : Bool) → ◌≡◌ {A = Option X} (cond b None None) None
cond_none true = refl
cond_none false = refl

pub put_some : (p : Path) (x : Leaf Bytes) (f : FileMap Bytes) → put path_cmp p x f ≢ []
put_some p x [] = λ e. cc
put_some p x (e ∷ f) = elim (path_cmp p e.0) as (λ o. by_order o ((p, x) ∷ e ∷ f) ((e.0, x) ∷ f) (e ∷ put path_cmp p x f) ≢ []) [ Less ↦ λ k. cc | Equal ↦ λ k. cc | Greater ↦ λ k. cc ]

pub IsInner-files_of : (o : Option Kept) → IsKeptAt o → IsInner (files_of o)
IsInner-files_of None h = record { paths = refl; sorted = refl }
IsInner-files_of (Some (file x)) h = record { paths = refl; sorted = refl }
IsInner-files_of (Some (folder f)) h = h.1

-- maps that answer alike at each path but the root, where both have none, are equal
pub same_files : (f g : FileMap Bytes) → IsInner f → IsInner g → ((c : Bytes) (p : Path) → file_at f (c ∷ p) ≡ file_at g (c ∷ p)) → f ≡ g
same_files f g hf hg same = same_maps f g hf.sorted hg.sorted (λ q. elim q as (λ q. file_at f q ≡ file_at g q) [
  | [] ↦ no_root f hf.paths ∙ sym (no_root g hg.paths)
  | c ∷ p ↦ same c p
])

-- ---- without what stands at or below a path

pub IsInner-removed : (p : Path) (f : FileMap Bytes) → IsInner f → IsInner (removed f p)
IsInner-removed p f h = record {
  paths = all-filter (λ e. is_inner_path e.0) (λ e. not (begins p e.0)) f h.paths;
  sorted = sorted-filter (λ q. not (begins p q)) f h.sorted;
}

file_at-folder : (q : Path) (f : FileMap Bytes) → file_at (map_if (folder_if_any f)) q ≡ file_at f q
file_at-folder q [] = refl
file_at-folder q (e ∷ f) = refl

IsKeptAt-folder : (f : FileMap Bytes) → IsInner f → IsKeptAt (folder_if_any f)
IsKeptAt-folder [] h = tt
IsKeptAt-folder (e ∷ f) h = ((λ z. cc), h)

pub IsKeptAt-removed : (p : Path) (o : Option Kept) → IsKeptAt o → IsKeptAt (kept_removed p o)
IsKeptAt-removed p None h = tt
IsKeptAt-removed [] (Some k) h = tt
IsKeptAt-removed (d ∷ p) (Some (file x)) h = h
IsKeptAt-removed (d ∷ p) (Some (folder f)) h = IsKeptAt-folder (removed f (d ∷ p)) (IsInner-removed (d ∷ p) f h.1)

pub IsLevel-replaced : (c : Bytes) (o : Option Kept) (es : Level) → is_component c ≡ true → IsKeptAt o → IsLevel es → IsLevel (replaced c o es)
IsLevel-replaced c None es hc hk h = IsLevel-others c es h
IsLevel-replaced c (Some k) es hc hk h = IsLevel-with_kept c k es hc hk h

pub kept_at-replaced : (c d : Bytes) (o : Option Kept) (es : Level) → kept_at d (replaced c o es) ≡ cond (same_bytes d c) o (kept_at d es)
kept_at-replaced c d None es = kept_at-others c d es
kept_at-replaced c d (Some k) es = kept_at-with_kept c d k es

-- what stands below the component afterwards
removed_below : (p q : Path) (o : Option Kept) → IsKeptAt o → cond (not (begins p q)) (file_at (map_if o) q) None ≡ file_at (map_if (kept_removed p o)) q
removed_below p q None h = cond_none {X = Leaf Bytes} (not (begins p q))
removed_below [] q (Some k) h = refl
removed_below (d ∷ p) [] (Some (file x)) h = refl
removed_below (d ∷ p) (e ∷ q) (Some (file x)) h = cond_none {X = Leaf Bytes} (not (begins (d ∷ p) (e ∷ q)))
removed_below (d ∷ p) q (Some (folder f)) h = sym (file_at-folder q (removed f (d ∷ p)) ∙ file_at-filter (λ r. not (begins (d ∷ p) r)) q f)

removed_at : (c d : Bytes) (p q : Path) (es : Level) → IsLevel es → IsLevel (replaced c (kept_removed p (kept_at c es)) es) → file_at (removed (files es) (c ∷ p)) (d ∷ q) ≡ file_at (files (replaced c (kept_removed p (kept_at c es)) es)) (d ∷ q)
removed_at c d p q es h g =
    let l = file_at-filter (λ r. not (begins (c ∷ p) r)) (d ∷ q) (files es) in
    elim (cases_bytes d c) [
      | inl s ↦
          let a = bytes_same d c s in let b = bytes_same c d (sym s) in
          rw (l, file_at-files d q es h, file_at-files d q _ g, kept_at-replaced c d (kept_removed p (kept_at c es)) es, a, b)
          (ap (λ o. cond (not (begins p q)) (file_at (map_if o) q) None) (ap (λ y. kept_at y es) s) ∙ removed_below p q (kept_at c es) (IsKeptAt-kept_at c es h))
      | inr n ↦
          let m : same_bytes c d ≡ false = same_bytes_flip c d ∙ n in
          rw (l, file_at-files d q es h, file_at-files d q _ g, kept_at-replaced c d (kept_removed p (kept_at c es)) es, n, m) refl
    ]

pub IsLevel-removed : (c : Bytes) (p : Path) (es : Level) → is_component c ≡ true → IsLevel es → IsLevel (replaced c (kept_removed p (kept_at c es)) es)
IsLevel-removed c p es hc h = IsLevel-replaced c (kept_removed p (kept_at c es)) es hc (IsKeptAt-removed p (kept_at c es) (IsKeptAt-kept_at c es h)) h

-- to remove a path is to remove the rest of the path, below its first component
pub removed_files : (c : Bytes) (p : Path) (es : Level) → is_component c ≡ true → IsLevel es → removed (files es) (c ∷ p) ≡ files (replaced c (kept_removed p (kept_at c es)) es)
removed_files c p es hc h =
    let g = IsLevel-removed c p es hc h in
    same_files (removed (files es) (c ∷ p)) (files (replaced c (kept_removed p (kept_at c es)) es))
    (IsInner-removed (c ∷ p) (files es) (IsInner-files es h)) (IsInner-files (replaced c (kept_removed p (kept_at c es)) es) g) (λ d q. removed_at c d p q es h g)
