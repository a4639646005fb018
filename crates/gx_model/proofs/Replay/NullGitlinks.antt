-- What commands make of a history that a stream can say: it has no gitlinks of forty zeros, and no headers but those of encodings.
use Rattle.std.proofs.Common.{Bool, true, false, cond, List, [], ◌∷◌, ◌++◌, map, Option, None, Some, Result, Ok, Err, sym, subst}
use Rattle.std.specs.Prelude.{IfOk, IfSome, ⊤}
use Rattle.std.specs.declared.cmp.Ordering.TheVariants.{Less, Equal, Greater}
use Rattle.std.specs.List.{AllByRecursion, filter, filter_map, fold}
use Rattle.std.specs.Map.{lookup}
use Rattle.std.specs.FinMap.Entries.{by_order, put}
use Rattle.gx_model.specs.declared.faults.Fault.{Fault}
use Rattle.gx_model.specs.Texts.{Bytes}
use Rattle.gx_model.specs.Faults.{unless, ◌>>=◌}
use Rattle.gx_model.specs.Texts.Paths.{Path, path_cmp}
use Rattle.gx_model.specs.Histories.Files.{FileMap, under}
use Rattle.gx_model.specs.Histories.Edits.{copied, copy_fault, modified, moved, renamed, with_all, without, without_line}
use Rattle.gx_model.specs.Histories.Values.{Commit, Commits, IsEncodingAlone, Value, blob_value, commit, commit_of, commit_value, commits_of, files_of, list_of, more, none, parents_of, tag_value, tree_value}
use Rattle.gx_model.specs.Histories.{IsClosedAfter, IsIn, is_in, with_one, with_tree}
use Rattle.gx_model.specs.Records.Growth.{all_trees}
use Rattle.gx_model.specs.Laws.ExportLaws.{AreSayable, IsNotNull, IsSayable}
use Rattle.gx_model.proofs.Records.GrownTrees.{trees_fold}
use Rattle.gx_model.proofs.Export.KeptCommits.{all_in}

-- ---- lists and maps

module _ {X : Type 0} (P : X → Type 0) where
  pub all_join : (xs ys : List X) → AllByRecursion P xs → AllByRecursion P ys → AllByRecursion P (xs ++ ys)
  all_join [] ys h k = k
  all_join (x ∷ xs) ys h k = (h.0, all_join xs ys h.1 k)

  pub all_pass : (t : X → Bool) (xs : List X) → AllByRecursion P xs → AllByRecursion P (filter t xs)
  all_pass t [] h = tt
  all_pass t (x ∷ xs) h = elim (t x) as (λ b. AllByRecursion P (cond b (x ∷ filter t xs) (filter t xs))) [ true ↦ (h.0, all_pass t xs h.1) | false ↦ all_pass t xs h.1 ]

module _ {K X : Type 0} (P : X → Type 0) where
  pub found : (t : K → Bool) (es : List (K × X)) → AllByRecursion (λ e. P e.1) es → IfSome (lookup t es) P
  found t [] h = tt
  found t (e ∷ es) h = elim (t e.0) as (λ b. IfSome (cond b (Some e.1) (lookup t es)) P) [ true ↦ h.0 | false ↦ found t es h.1 ]

module _ {A B E : Type 0} (P : A → Type 0) (Q : B → Type 0) where
  -- what holds after both steps
  pub then_if : (r : Result A E) (f : A → Result B E) → IfOk r P → ((x : A) → P x → IfOk (f x) Q) → IfOk (r >>= f) Q
  then_if (Ok x) f h k = k x h
  then_if (Err e) f h k = tt

-- ---- the files that edits leave

module _ {X : Type 0} (P : X → Type 0) where
  abbrev AllLeaves : List (Path × X) → Type 0
  AllLeaves f = AllByRecursion (λ file. P file.1) f

  put_leaves : (p : Path) (x : X) (f : List (Path × X)) → P x → AllLeaves f → AllLeaves (put path_cmp p x f)
  put_leaves p x [] h k = (h, tt)
  put_leaves p x (e ∷ es) h k =
      elim (path_cmp p e.0) as (λ o. AllLeaves (by_order o ((p, x) ∷ e ∷ es) ((e.0, x) ∷ es) (e ∷ put path_cmp p x es))) [
        | Less ↦ (h, k)
        | Equal ↦ (h, k.1)
        | Greater ↦ (k.0, put_leaves p x es h k.1)
      ]

  pub moved_leaves : (s d : Path) (f : List (Path × X)) → AllLeaves f → AllLeaves (moved s d f)
  moved_leaves s d [] h = tt
  moved_leaves s d (e ∷ es) h = (h.0, moved_leaves s d es h.1)

  with_all_leaves : (es f : List (Path × X)) → AllLeaves es → AllLeaves f → AllLeaves (with_all es f)
  with_all_leaves [] f h k = k
  with_all_leaves (e ∷ es) f h k = put_leaves e.0 e.1 (with_all es f) h.0 (with_all_leaves es f h.1 k)

  unless_leaves : (o : Option Fault) (f : List (Path × X)) → AllLeaves f → IfOk (unless o f) AllLeaves
  unless_leaves None f h = h
  unless_leaves (Some e) f h = tt

  pub modified_leaves : (f : List (Path × X)) (p : Path) (x : X) → P x → AllLeaves f → IfOk (modified f p x) AllLeaves
  modified_leaves f [] x h k = tt
  modified_leaves f (c ∷ p) x h k = put_leaves (c ∷ p) x (without_line (c ∷ p) f) h (all_pass (λ file. P file.1) _ f k)

  pub copied_leaves : (f : List (Path × X)) (s d : Path) → AllLeaves f → IfOk (copied f s d) AllLeaves
  copied_leaves f s d h =
      unless_leaves (copy_fault f s d) (with_all (moved s d (under s f)) (without_line d f))
      (with_all_leaves (moved s d (under s f)) (without_line d f) (moved_leaves s d (under s f) (all_pass (λ file. P file.1) _ f h)) (all_pass (λ file. P file.1) _ f h))

  pub renamed_leaves : (f : List (Path × X)) (s d : Path) → AllLeaves f → IfOk (renamed f s d) AllLeaves
  renamed_leaves f s d h =
      unless_leaves (copy_fault f s d) (with_all (moved s d (under s f)) (without_line d (without s f)))
      (with_all_leaves (moved s d (under s f)) (without_line d (without s f)) (moved_leaves s d (under s f) (all_pass (λ file. P file.1) _ f h))
      (all_pass (λ file. P file.1) _ (without s f) (all_pass (λ file. P file.1) _ f h)))

-- ---- commits that a stream can say, up to their first ancestors

abbrev pub AreNotNull : FileMap Bytes → Type 0
AreNotNull f = AllByRecursion (λ file. IsNotNull file.1.0 file.1.1) f

abbrev mutual
  pub IsFree : Commit → Type 0
  IsFree (commit files parents text) = (AreNotNull files × IsEncodingAlone text.headers) × AreFree parents

  pub AreFree : Commits → Type 0
  AreFree none = ⊤
  AreFree (more c cs) = IsFree c × AreFree cs

abbrev pub IsFreeValue : Value → Type 0
IsFreeValue (blob_value x) = ⊤
IsFreeValue (tree_value f) = ⊤
IsFreeValue (commit_value c) = IsFree c
IsFreeValue (tag_value t) = IsFree t.target

pub free_files : (c : Commit) → IsFree c → AreNotNull (files_of c)
free_files (commit files parents text) h = h.0.0

pub free_sayable : (c : Commit) → IsFree c → IsSayable c
free_sayable (commit files parents text) h = record { files = h.0.0; headers = h.0.1 }

pub free_parents : (c : Commit) → IsFree c → AreFree (parents_of c)
free_parents (commit files parents text) h = h.1

pub free_list : (cs : Commits) → AreFree cs → AllByRecursion IsFree (list_of cs)
free_list none h = tt
free_list (more c cs) h = (h.0, free_list cs h.1)

pub free_commits : (cs : List Commit) → AllByRecursion IsFree cs → AreFree (commits_of cs)
free_commits [] h = tt
free_commits (c ∷ cs) h = (h.0, free_commits cs h.1)

-- commits that stand among free values
free_among : (vs : List Value) → AllByRecursion IsFreeValue vs → (cs : Commits) → AllByRecursion (IsIn vs) (map commit_value (list_of cs)) → AreFree cs
free_among vs h none k = tt
free_among vs h (more c cs) k = (all_in IsFreeValue vs (commit_value c) h k.0, free_among vs h cs k.1)

free_made : (vs : List Value) → AllByRecursion IsFreeValue vs → (c : Commit) → IsSayable c → AllByRecursion (IsIn vs) (map commit_value (list_of (parents_of c))) → IsFree c
free_made vs h (commit files parents text) n k = ((n.files, n.headers), free_among vs h parents k)

-- the values of a history whose commits have none are free
pub all_free : (before vs : List Value) → AllByRecursion IsFreeValue before → IsClosedAfter before vs → AreSayable (filter_map commit_of vs) → AllByRecursion IsFreeValue vs
all_free before [] h k n = tt
all_free before (blob_value x ∷ vs) h k n = (tt, all_free (before ++ blob_value x ∷ []) vs (all_join IsFreeValue before (blob_value x ∷ []) h (tt, tt)) k.2 n)
all_free before (tree_value f ∷ vs) h k n = (tt, all_free (before ++ tree_value f ∷ []) vs (all_join IsFreeValue before (tree_value f ∷ []) h (tt, tt)) k.2 n)
all_free before (commit_value c ∷ vs) h k n =
    let free = free_made before h c n.0 k.1.1 in
    (free, all_free (before ++ commit_value c ∷ []) vs (all_join IsFreeValue before (commit_value c ∷ []) h (free, tt)) k.2 n.1)
all_free before (tag_value t ∷ vs) h k n =
    let free = all_in IsFreeValue before (commit_value t.target) h k.1.0 in
    (free, all_free (before ++ tag_value t ∷ []) vs (all_join IsFreeValue before (tag_value t ∷ []) h (free, tt)) k.2 n)

-- and the other way round
pub none_null : (vs : List Value) → AllByRecursion IsFreeValue vs → AreSayable (filter_map commit_of vs)
none_null [] h = tt
none_null (blob_value x ∷ vs) h = none_null vs h.1
none_null (tree_value f ∷ vs) h = none_null vs h.1
none_null (commit_value c ∷ vs) h = (free_sayable c h.0, none_null vs h.1)
none_null (tag_value t ∷ vs) h = none_null vs h.1

-- ---- values that are added

pub with_one_free : (vs : List Value) (v : Value) → AllByRecursion IsFreeValue vs → IsFreeValue v → AllByRecursion IsFreeValue (with_one vs v)
with_one_free vs v h k = elim (is_in vs v) as (λ b. AllByRecursion IsFreeValue (cond b vs (vs ++ v ∷ []))) [ true ↦ h | false ↦ all_join IsFreeValue vs (v ∷ []) h (k, tt) ]

all_trees_free : (fs : List (FileMap Bytes)) (vs : List Value) → AllByRecursion IsFreeValue vs → AllByRecursion IsFreeValue (fold with_one vs (map tree_value fs))
all_trees_free [] vs h = h
all_trees_free (f ∷ fs) vs h = all_trees_free fs (with_one vs (tree_value f)) (with_one_free vs (tree_value f) h tt)

pub with_tree_free : (vs : List Value) (f : FileMap Bytes) → AllByRecursion IsFreeValue vs → AllByRecursion IsFreeValue (with_tree vs f)
with_tree_free vs f h = subst (AllByRecursion IsFreeValue) (sym (trees_fold vs f)) (all_trees_free (all_trees f) vs h)
