-- Copies and renames, by what stands at their source.
use Rattle.std.proofs.Common.{◌≡◌, ◌≢◌, ◌<◌, ◌≤◌, true, false, cond, not, ◌&&◌, [], ◌∷◌, ◌++◌, map, length, drop, Option, Some, None, Result, inl, inr, refl, sym, ap, ◌∙◌, subst, arith, append-nil}
use Rattle.std.specs.Prelude.{is_some, Err, IfErr, IsErr, IsErrAnd, Ok}
use Rattle.std.specs.List.{list_all}
use Rattle.std.proofs.lemmas.Bool.{and_parts, cases_Bool, false≢true}
use Rattle.gx_model.specs.declared.faults.Fault.{Fault}
use Rattle.gx_model.specs.declared.faults.Fault.TheVariants as model
use Rattle.gx_model.specs.Texts.{Bytes}
use Rattle.gx_model.specs.Texts.Paths.{Path, begins, is_short, path_cmp}
use Rattle.gx_model.specs.Histories.Files.{FileMap, Leaf, file_at, sub_map, under}
use Rattle.gx_model.specs.Histories.Edits.{copied, copy_fault, moved, removed, renamed, with_all, without, without_line}
use Rattle.gx_model.proofs.Histories.FoundFiles.{at_moved}
use Rattle.gx_tree.specs.Calls.{Becomes}
use Rattle.gx_tree.specs.Copies.{graft_fault, is_file}
use Rattle.gx_tree.specs.Lists.{below}
use Rattle.gx_tree.specs.Named.{NamedTree}
use Rattle.gx_tree.specs.Nodes.{Kept, IsInner, IsKept, file, folder, kept_map}
use Rattle.gx_tree.specs.Steps.{grafted}
use Rattle.gx_tree.specs.Faults.{fault_of, Refuses}
use Rattle.gx_tree.specs.declared.fault.TreeFault.{TreeFault}
use Rattle.gx_model.specs.Faults.{IsFaultOf, unless}
use Rattle.std.specs.FinMap.Entries.{below_all, is_sorted, put}
use Rattle.gx_tree.proofs.Listed.{below_root}
use Rattle.gx_tree.proofs.Lookups.{less_is, no_root}
use Rattle.gx_tree.proofs.Grafts.{kept_some}

-- ---- what is moved

moved_is : (s d : Path) (f : FileMap Bytes) → moved s d f ≡ below d (map (λ e. (drop (length s) e.0, e.1)) f)
moved_is s d [] = refl
moved_is s d (e ∷ f) = ap (λ r. (d ++ drop (length s) e.0, e.1) ∷ r) (moved_is s d f)

none_under : (s : Path) (f : FileMap Bytes) → list_all (λ e. not (begins s e.0)) f ≡ true → under s f ≡ []
none_under s [] h = refl
none_under s (e ∷ f) h = elim (cases_Bool (begins s e.0)) [
  | inl a ↦ absurd (false≢true (ap not (sym a) ∙ (and_parts _ _ h).0))
  | inr a ↦ rw a (none_under s f (and_parts _ _ h).1)
]

nothing_under : (s : Path) (f : FileMap Bytes) → sub_map f s ≡ [] → list_all (λ e. not (begins s e.0)) f ≡ true
nothing_under s [] h = refl
nothing_under s (e ∷ f) h = elim (begins s e.0) as (λ b. map (λ (x : Path × Leaf Bytes). let y : Path × Leaf Bytes = (drop (length s) x.0, x.1) in y) (cond b (e ∷ under s f) (under s f)) ≡ [] → (not b && list_all (λ e. not (begins s e.0)) f) ≡ true) [
  | true ↦ λ k. cc
  | false ↦ λ k. nothing_under s f k
] h

some_under : (s : Path) (f : FileMap Bytes) → (sub_map f s ≢ []) → list_all (λ e. not (begins s e.0)) f ≡ false
some_under s f n = elim (cases_Bool (list_all (λ e. not (begins s e.0)) f)) [
  | inl a ↦ absurd (n (ap (map (λ e. (drop (length s) e.0, e.1))) (none_under s f a)))
  | inr a ↦ a
]

file_there : (f : FileMap Bytes) (s : Path) → file_at (sub_map f s) [] ≡ file_at f s
file_there f s = at_moved s [] f [] ∙ ap (file_at f) (append-nil s)

kept_file : (k : Kept) → IsKept k → is_some (file_at (kept_map k) []) ≡ is_file k
kept_file (file x) h = refl
kept_file (folder f) h = ap is_some (no_root f h.1.paths)

-- ---- what is kept at the source is put at the destination, unless it may not stand there

pub copy_fault_is : (f : FileMap Bytes) (s d : Path) (k : Kept) → sub_map f s ≡ kept_map k → IsKept k → copy_fault f s d ≡ graft_fault k d
copy_fault_is f s d k e h =
    let a = some_under s f (λ n. kept_some k h (sym e ∙ n)) in
    let b : is_some (file_at f s) ≡ is_file k = ap is_some (sym (file_there f s)) ∙ ap (λ m. is_some (file_at m [])) e ∙ kept_file k h in
    let m : moved s d (under s f) ≡ below d (kept_map k) = moved_is s d (under s f) ∙ ap (below d) e in
    rw (a, b, m) refl

pub copied_is : (f : FileMap Bytes) (s d : Path) (k : Kept) → sub_map f s ≡ kept_map k → IsKept k → copied f s d ≡ unless (graft_fault k d) (grafted d (kept_map k) f)
copied_is f s d k e h =
    ap (λ g. unless (copy_fault f s d) (with_all g (without_line d f))) (moved_is s d (under s f) ∙ ap (below d) e)
    ∙ ap (λ o. unless o (grafted d (kept_map k) f)) (copy_fault_is f s d k e h)

pub renamed_is : (f : FileMap Bytes) (s d : Path) (k : Kept) → sub_map f s ≡ kept_map k → IsKept k → renamed f s d ≡ unless (graft_fault k d) (grafted d (kept_map k) (removed f s))
renamed_is f s d k e h =
    ap (λ g. unless (copy_fault f s d) (with_all g (without_line d (without s f)))) (moved_is s d (under s f) ∙ ap (below d) e)
    ∙ ap (λ o. unless o (grafted d (kept_map k) (removed f s))) (copy_fault_is f s d k e h)

-- a file may stand at each short path but the root
pub file_fits : (x : Leaf Bytes) (p : Path) → (0 < length p) → is_short p ≡ true → graft_fault (file x) p ≡ None
file_fits x [] l h = absurd (omega arith)
file_fits x (c ∷ p) l h =
    let short : is_short ((c ∷ p) ++ []) ≡ true = ap is_short (append-nil (c ∷ p)) ∙ h in
    rw short refl

pub file_within : (x : Leaf Bytes) (p : Path) → graft_fault (file x) p ≡ None → 0 < length p
file_within x [] h = cc
file_within x (c ∷ p) h = omega arith

-- whatever is so is so where a call was refused
pub if_refused : {X E : Type 0} (P : Type 0) (r : Result X E) → P → IfErr r (λ e. P)
if_refused P (Ok x) h = tt
if_refused P (Err e) h = h

-- what may stand there is copied there
pub copied_there : (f : FileMap Bytes) (s d : Path) (k : Kept) → sub_map f s ≡ kept_map k → IsKept k → graft_fault k d ≡ None → copied f s d ≡ Ok (grafted d (kept_map k) f)
copied_there f s d k e h fits = copied_is f s d k e h ∙ ap (λ o. unless o (grafted d (kept_map k) f)) fits

pub renamed_there : (f : FileMap Bytes) (s d : Path) (k : Kept) → sub_map f s ≡ kept_map k → IsKept k → graft_fault k d ≡ None → renamed f s d ≡ Ok (grafted d (kept_map k) (removed f s))
renamed_there f s d k e h fits = renamed_is f s d k e h ∙ ap (λ o. unless o (grafted d (kept_map k) (removed f s))) fits

-- what is refused is refused for its cause, whatever memory there is, and the fault is passed on
module _ (o : Option Fault) (g : FileMap Bytes) where
  fault_told : (x : TreeFault) → o ≡ Some (fault_of x) → IsFaultOf (fault_of x) (unless o g)
  fault_told x h = rw h (itself (fault_of x))
    where
      itself : (f : Fault) → IsFaultOf f (unless (Some f) g)
      itself model.OutOfMemory = tt
      itself model.NoSuchPath = refl
      itself model.RootNotTree = refl
      itself model.PathTooLong = refl
      itself _ = refl

  pub fault_passed : {X : Type 0} (t : NamedTree) (r : Result X TreeFault) (x : TreeFault) → IsErr r → IsErrAnd r (λ e. e ≡ x) → o ≡ Some (fault_of x) → Becomes t r (unless o g)
  fault_passed t (Ok y) x e i h = absurd (false≢true e)
  fault_passed t (Err y) x e i h = subst (λ z. IsFaultOf (fault_of z) (unless o g)) (sym i) (fault_told x h)

  pub refusal_passed : {X : Type 0} (r : Result X TreeFault) (x : TreeFault) → IsErr r → IsErrAnd r (λ e. e ≡ x) → o ≡ Some (fault_of x) → Refuses (unless o g) r
  refusal_passed (Ok t) x e i h = absurd (false≢true e)
  refusal_passed (Err y) x e i h = rw h (ap fault_of i)

-- nothing is at the source
pub fault_none : (f : FileMap Bytes) (s d : Path) → sub_map f s ≡ [] → copy_fault f s d ≡ Some model.NoSuchPath
fault_none f s d e = rw (nothing_under s f e) refl

-- ---- the root as destination takes what is kept whole

pub grafted_root : (f g : FileMap Bytes) → IsInner g → grafted [] g f ≡ g
grafted_root f g h = ap (λ z. with_all z (without_line [] f)) (below_root g) ∙ ap (with_all g) (nothing_beside f) ∙ with_sorted g h.sorted
  where
    nothing_beside : (f : FileMap Bytes) → without_line [] f ≡ []
    nothing_beside [] = refl
    nothing_beside (e ∷ f) = nothing_beside f

    put_first : (p : Path) (x : Leaf Bytes) (f : FileMap Bytes) → below_all path_cmp p f ≡ true → put path_cmp p x f ≡ (p, x) ∷ f
    put_first p x [] h = refl
    put_first p x (e ∷ f) h = rw (less_is (path_cmp p e.0) (and_parts _ _ h).0) refl

    with_sorted : (g : FileMap Bytes) → is_sorted path_cmp g ≡ true → with_all g [] ≡ g
    with_sorted [] h = refl
    with_sorted (e ∷ g) h = ap (put path_cmp e.0 e.1) (with_sorted g (and_parts _ _ h).1) ∙ put_first e.0 e.1 g (and_parts _ _ h).0

pub grafted_at_root : (p : Path) (f g : FileMap Bytes) → length p ≤ 0 → IsKept (folder g) → grafted p g f ≡ g
grafted_at_root [] f g l h = grafted_root f g h.1
grafted_at_root (c ∷ p) f g l h = absurd (omega arith)
