-- Edits keep a map of names one.
use Rattle.std.proofs.Common.{◌≡◌, ◌≢◌, ℕ, ◌<◌, Bool, true, false, cond, not, ◌&&◌, List, [], ◌∷◌, ◌++◌, length, drop, map, append-nil, refl, sym, ap, ◌∙◌, subst, arith}
use Rattle.std.specs.Prelude.{Ok, IfOk}
use Rattle.std.specs.Bool.{passes}
use Rattle.std.specs.List.{filter, list_all, AllByRecursion}
use Rattle.std.specs.declared.cmp.Ordering.TheVariants.{Less, Equal, Greater}
use Rattle.std.specs.FinMap.Entries.{by_order, put}
use Rattle.std.proofs.lemmas.Bool.{and_from, and_parts}
use Rattle.gx_model.specs.declared.objects.Mode.TheVariants.{Dir}
use Rattle.gx_model.specs.Texts.{Bytes}
use Rattle.gx_model.specs.Texts.Paths.{Path, are_in_line, begins, is_component, is_file_path, is_short, path_cmp}
use Rattle.gx_model.specs.Histories.Files.{FileMap, Leaf, is_file_map, sub_map, under}
use Rattle.gx_model.specs.Histories.Edits.{copied, modified, removed, renamed, with_all, without_line}
use Rattle.gx_model.specs.Objects.{is_name}
use Rattle.gx_model.proofs.Histories.FileMapEdits.{Parts, copied_parts, modified_parts, of_parts, parts_of, removed_parts, renamed_parts}
use Rattle.gx_model.specs.Objects.NameMaps.{IsNameMap}
use Rattle.gx_tree.specs.Lists.{below}
use Rattle.gx_tree.specs.Steps.{grafted}

-- ---- what holds of each file

module _ {X : Type 0} where
  pub all_tests : (t : X → Bool) (xs : List X) → list_all t xs ≡ true → AllByRecursion (λ x. t x ≡ true) xs
  all_tests t [] h = tt
  all_tests t (x ∷ xs) h = ((and_parts _ _ h).0, all_tests t xs (and_parts _ _ h).1)

  pub tests_all : (t : X → Bool) (xs : List X) → AllByRecursion (λ x. t x ≡ true) xs → list_all t xs ≡ true
  tests_all t [] h = refl
  tests_all t (x ∷ xs) h = and_from _ _ h.0 (tests_all t xs h.1)

  pub each-filter : (P : X → Type 0) (t : X → Bool) (xs : List X) → AllByRecursion P xs → AllByRecursion P (filter t xs)
  each-filter P t [] h = tt
  each-filter P t (x ∷ xs) h = elim (t x) as (λ b. AllByRecursion P (cond b (x ∷ filter t xs) (filter t xs))) [ true ↦ (h.0, each-filter P t xs h.1) | false ↦ each-filter P t xs h.1 ]

pub each-put : (P : Leaf Bytes → Type 0) (p : Path) (x : Leaf Bytes) (f : FileMap Bytes) → P x → AllByRecursion (λ e. P e.1) f → AllByRecursion (λ e. P e.1) (put path_cmp p x f)
each-put P p x [] k h = (k, tt)
each-put P p x (e ∷ f) k h =
    elim (path_cmp p e.0) as (λ o. AllByRecursion (λ e. P e.1) (by_order o ((p, x) ∷ e ∷ f) ((e.0, x) ∷ f) (e ∷ put path_cmp p x f))) [
      | Less ↦ (k, h)
      | Equal ↦ (k, h.1)
      | Greater ↦ (h.0, each-put P p x f k h.1)
    ]

-- a mode that is no directory's, and a name
abbrev pub IsLeaf : Leaf Bytes → Type 0
IsLeaf x = (x.0 ≢ Dir) × (is_name x.1 ≡ true)

pub leaves : (f : FileMap Bytes) → IsNameMap f → AllByRecursion (λ e. IsLeaf e.1) f
leaves f h = both f h.files (all_tests (λ e. is_name e.1.1) f h.names)
  where
    both : (f : FileMap Bytes) → AllByRecursion (λ e. e.1.0 ≢ Dir) f → AllByRecursion (λ e. is_name e.1.1 ≡ true) f → AllByRecursion (λ e. IsLeaf e.1) f
    both [] h k = tt
    both (e ∷ f) h k = ((h.0, k.0), both f h.1 k.1)

files_are : (f : FileMap Bytes) → AllByRecursion (λ e. IsLeaf e.1) f → AllByRecursion (λ e. e.1.0 ≢ Dir) f
files_are [] h = tt
files_are (e ∷ f) h = (h.0.0, files_are f h.1)

names_are : (f : FileMap Bytes) → AllByRecursion (λ e. IsLeaf e.1) f → list_all (λ e. is_name e.1.1) f ≡ true
names_are [] h = refl
names_are (e ∷ f) h = and_from _ _ h.0.1 (names_are f h.1)

pub name_map_of : (f : FileMap Bytes) → is_file_map f ≡ true → AllByRecursion (λ e. IsLeaf e.1) f → IsNameMap f
name_map_of f m h = record { file_map = m; files = files_are f h; names = names_are f h }

pub no_names : IsNameMap []
no_names = record { file_map = refl; files = tt; names = refl }

each-below : (P : Leaf Bytes → Type 0) (p : Path) (g : FileMap Bytes) → AllByRecursion (λ e. P e.1) g → AllByRecursion (λ e. P e.1) (below p g)
each-below P p [] h = tt
each-below P p (e ∷ g) h = (h.0, each-below P p g h.1)

each-with_all : (P : Leaf Bytes → Type 0) (g f : FileMap Bytes) → AllByRecursion (λ e. P e.1) g → AllByRecursion (λ e. P e.1) f → AllByRecursion (λ e. P e.1) (with_all g f)
each-with_all P [] f h k = k
each-with_all P (e ∷ g) f h k = each-put P e.0 e.1 (with_all g f) h.0 (each-with_all P g f h.1 k)

pub each-off : (P : Leaf Bytes → Type 0) (n : ℕ) (f : FileMap Bytes) → AllByRecursion (λ e. P e.1) f → AllByRecursion (λ (e : Path × Leaf Bytes). P e.1) (map (λ e. (drop n e.0, e.1)) f)
each-off P n [] h = tt
each-off P n (e ∷ f) h = (h.0, each-off P n f h.1)

-- ---- edits

pub file_path : (p : Path) → (0 < length p) → (list_all is_component p && is_short p) ≡ true → is_file_path p ≡ true
file_path [] l h = absurd (omega arith)
file_path (c ∷ p) l h = h

-- a file at a path is put there alone
pub modified_is : (f : FileMap Bytes) (p : Path) (x : Leaf Bytes) → (0 < length p) → modified f p x ≡ Ok (grafted p (([], x) ∷ []) f)
modified_is f [] x l = absurd (omega arith)
modified_is f (c ∷ p) x l = ap (λ q. Ok (put path_cmp q x (without_line (c ∷ p) f))) (sym (append-nil (c ∷ p)))

pub names-modified : (f : FileMap Bytes) (p : Path) (x : Leaf Bytes) → (0 < length p) → (list_all is_component p && is_short p) ≡ true → IsLeaf x → IsNameMap f → IsNameMap (grafted p (([], x) ∷ []) f)
names-modified f p x l hp hx h =
    name_map_of (grafted p (([], x) ∷ []) f)
    (of_parts (grafted p (([], x) ∷ []) f) (subst (λ r. IfOk r Parts) (modified_is f p x l) (modified_parts f p x (passes _ (file_path p l hp)) (parts_of f h.file_map))))
    (each-put IsLeaf (p ++ []) x (without_line p f) hx (each-filter (λ e. IsLeaf e.1) _ f (leaves f h)))

pub names-removed : (f : FileMap Bytes) (p : Path) → IsNameMap f → IsNameMap (removed f p)
names-removed f p h =
    name_map_of (removed f p) (of_parts (removed f p) (removed_parts f p (parts_of f h.file_map))) (each-filter (λ e. IsLeaf e.1) (λ e. not (begins p e.0)) f (leaves f h))

grafted_leaves : (f rest : FileMap Bytes) (s d : Path) → AllByRecursion (λ e. IsLeaf e.1) f → AllByRecursion (λ e. IsLeaf e.1) rest → AllByRecursion (λ e. IsLeaf e.1) (grafted d (sub_map f s) rest)
grafted_leaves f rest s d h k =
    each-with_all IsLeaf (below d (sub_map f s)) (without_line d rest)
    (each-below IsLeaf d (sub_map f s) (each-off IsLeaf (length s) (under s f) (each-filter (λ e. IsLeaf e.1) (λ e. begins s e.0) f h)))
    (each-filter (λ e. IsLeaf e.1) (λ e. not (are_in_line d e.0)) rest k)

pub names-copied : (f m g : FileMap Bytes) (s d : Path) → (list_all is_component d && is_short d) ≡ true → sub_map f s ≡ m → g ≡ grafted d m f → copied f s d ≡ Ok g → IsNameMap f → IsNameMap g
names-copied f m g s d hd em eg e h =
    name_map_of g
    (of_parts g (subst (λ r. IfOk r Parts) e (copied_parts f s d (passes _ (and_parts _ _ hd).0) (parts_of f h.file_map))))
    (subst (AllByRecursion (λ e. IsLeaf e.1)) (ap (λ z. grafted d z f) em ∙ sym eg) (grafted_leaves f f s d (leaves f h) (leaves f h)))

pub names-renamed : (f m g : FileMap Bytes) (s d : Path) → (list_all is_component d && is_short d) ≡ true → sub_map f s ≡ m → g ≡ grafted d m (removed f s) → renamed f s d ≡ Ok g → IsNameMap f → IsNameMap g
names-renamed f m g s d hd em eg e h =
    name_map_of g
    (of_parts g (subst (λ r. IfOk r Parts) e (renamed_parts f s d (passes _ (and_parts _ _ hd).0) (parts_of f h.file_map))))
    (subst (AllByRecursion (λ e. IsLeaf e.1)) (ap (λ z. grafted d z (removed f s)) em ∙ sym eg) (grafted_leaves f (removed f s) s d (leaves f h) (leaves (removed f s) (names-removed f s h))))
