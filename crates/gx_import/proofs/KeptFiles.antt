-- Edits of a file map keep what each of its leaves meets, and it has the names that the edited map of names has.
use Rattle.std.proofs.Common.{◌≡◌, Bool, true, false, cond, List, [], ◌∷◌, Option, Some, None, Ok, refl, sym, ap, subst, ◌∙◌}
use Rattle.std.specs.Prelude.{T, not, ◌&&◌, IsTrue, IfSome}
use Rattle.std.specs.Bool.{passes}
use Rattle.std.specs.List.{AllByRecursion, cons_option, filter, list_all}
use Rattle.std.specs.Ordering.{is_lt}
use Rattle.std.specs.declared.cmp.Ordering.TheVariants.{Less, Equal, Greater}
use Rattle.std.specs.FinMap.Entries.{below_all, by_order, is_sorted, put}
use Rattle.gx_model.specs.declared.objects.Kind.{Kind}
use Rattle.gx_model.specs.declared.faults.Fault.{Fault}
use Rattle.gx_model.specs.Texts.{Bytes}
use Rattle.gx_model.specs.Texts.Paths.{Path, are_in_line, begins, is_file_path, path_cmp}
use Rattle.gx_model.specs.Histories.Files.{FileMap, Leaf, are_apart, is_file_map, under}
use Rattle.gx_model.specs.Histories.Edits.{copied, copy_fault, modified, moved, removed, renamed, with_all, without, without_line}
use Rattle.gx_model.specs.Faults.{unless}
use Rattle.gx_model.specs.Histories.Values.{Value, blob_of, blobs_of, is_leaf}
use Rattle.gx_model.specs.Records.{content_name, named_map}
use Rattle.gx_model.specs.Histories.{IsIn}
use Rattle.gx_model.proofs.Texts.PathTests.{both, first, second, is_true}
use Rattle.gx_model.specs.Objects.NameMaps.{AreFiles, IsNameMap}
use Rattle.gx_import.proofs.NamedEdits.{leafed}

-- ---- each leaf of an edited map is one of the old map's, or the new one

module _ {X : Type 0} (P : X → Type 0) where
  abbrev pub AllLeaves : List (Path × X) → Type 0
  AllLeaves files = AllByRecursion (λ e. P e.1) files

  filter_leaves : (t : Path → Bool) (f : List (Path × X)) → AllLeaves f → AllLeaves (filter (λ e. t e.0) f)
  filter_leaves t [] h = tt
  filter_leaves t (e ∷ es) h =
      elim (t e.0) as (λ b. AllLeaves (cond b (e ∷ filter (λ e. t e.0) es) (filter (λ e. t e.0) es))) [ true ↦ (h.0, filter_leaves t es h.1) | false ↦ filter_leaves t es h.1 ]

  put_leaves : (p : Path) (x : X) → P x → (f : List (Path × X)) → AllLeaves f → AllLeaves (put path_cmp p x f)
  put_leaves p x k [] h = (k, tt)
  put_leaves p x k (e ∷ es) h =
      elim (path_cmp p e.0) as (λ o. AllLeaves (by_order o ((p, x) ∷ e ∷ es) ((e.0, x) ∷ es) (e ∷ put path_cmp p x es))) [
        | Less ↦ (k, h)
        | Equal ↦ (k, h.1)
        | Greater ↦ (h.0, put_leaves p x k es h.1)
      ]

  moved_leaves : (s d : Path) (f : List (Path × X)) → AllLeaves f → AllLeaves (moved s d f)
  moved_leaves s d [] h = tt
  moved_leaves s d (e ∷ es) h = (h.0, moved_leaves s d es h.1)

  all_leaves : (es f : List (Path × X)) → AllLeaves es → AllLeaves f → AllLeaves (with_all es f)
  all_leaves [] f h k = k
  all_leaves (e ∷ es) f h k = put_leaves e.0 e.1 h.0 (with_all es f) (all_leaves es f h.1 k)

  unless_leaves : (o : Option Fault) (f g : List (Path × X)) → unless o f ≡ Ok g → AllLeaves f → AllLeaves g
  unless_leaves None f g e h = let same : f ≡ g = cc e in subst AllLeaves same h
  unless_leaves (Some x) f g e h = absurd (cc e)

  placed_leaves : (s d : Path) (f rest : List (Path × X)) → AllLeaves f → AllLeaves rest → AllLeaves (with_all (moved s d (under s f)) (without_line d rest))
  placed_leaves s d f rest h k =
      all_leaves (moved s d (under s f)) (without_line d rest) (moved_leaves s d (under s f) (filter_leaves (begins s) f h)) (filter_leaves (λ q. not (are_in_line d q)) rest k)

  pub modified_leaves : (f : List (Path × X)) (p : Path) (x : X) (g : List (Path × X)) → modified f p x ≡ Ok g → P x → AllLeaves f → AllLeaves g
  modified_leaves f [] x g e k h = absurd (cc e)
  modified_leaves f (c ∷ p) x g e k h =
      let same : put path_cmp (c ∷ p) x (without_line (c ∷ p) f) ≡ g = cc e in
      subst AllLeaves same (put_leaves (c ∷ p) x k (without_line (c ∷ p) f) (filter_leaves (λ q. not (are_in_line (c ∷ p) q)) f h))

  pub removed_leaves : (f : List (Path × X)) (p : Path) → AllLeaves f → AllLeaves (removed f p)
  removed_leaves f p h = filter_leaves (λ q. not (begins p q)) f h

  pub copied_leaves : (f : List (Path × X)) (s d : Path) (g : List (Path × X)) → copied f s d ≡ Ok g → AllLeaves f → AllLeaves g
  copied_leaves f s d g e h = unless_leaves (copy_fault f s d) _ g e (placed_leaves s d f f h h)

  pub renamed_leaves : (f : List (Path × X)) (s d : Path) (g : List (Path × X)) → renamed f s d ≡ Ok g → AllLeaves f → AllLeaves g
  renamed_leaves f s d g e h = unless_leaves (copy_fault f s d) _ g e (placed_leaves s d f (without s f) h (filter_leaves (λ q. not (begins s q)) f h))

-- ---- whether a list of entries is a file map is told by its paths

module _ {X Y : Type 0} (h : X → Y) where
  tests_leafed : (t : Path → Bool) (f : List (Path × X)) → list_all (λ e. t e.0) (leafed h f) ≡ list_all (λ e. t e.0) f
  tests_leafed t [] = refl
  tests_leafed t (e ∷ es) = ap (λ b. t e.0 && b) (tests_leafed t es)

  apart_leafed : (f : List (Path × X)) → are_apart (leafed h f) ≡ are_apart f
  apart_leafed [] = refl
  apart_leafed (e ∷ es) = λ i. tests_leafed (λ q. not (are_in_line e.0 q)) es i && apart_leafed es i

  below_leafed : (p : Path) (f : List (Path × X)) → below_all path_cmp p (leafed h f) ≡ below_all path_cmp p f
  below_leafed p [] = refl
  below_leafed p (e ∷ es) = ap (λ b. is_lt (path_cmp p e.0) && b) (below_leafed p es)

  sorted_leafed : (f : List (Path × X)) → is_sorted path_cmp (leafed h f) ≡ is_sorted path_cmp f
  sorted_leafed [] = refl
  sorted_leafed (e ∷ es) = λ i. below_leafed e.0 es i && sorted_leafed es i

  file_map_leafed : (f : List (Path × X)) → is_file_map (leafed h f) ≡ is_file_map f
  file_map_leafed f = λ i. (tests_leafed is_file_path f i && apart_leafed f i) && sorted_leafed f i

-- ---- files and their names

-- a leaf is a file's content, whose bytes stand among these values
abbrev pub IsKnownLeaf : List Value → Leaf Bytes → Type 0
IsKnownLeaf values leaf = T (is_leaf leaf.0 leaf.1) × IfSome (blob_of leaf.0 leaf.1) (IsIn values)

leaves_known : (values : List Value) (f : FileMap Bytes) → T (list_all (λ e. is_leaf e.1.0 e.1.1) f) → AllByRecursion (IsIn values) (blobs_of f) → AllLeaves (IsKnownLeaf values) f
leaves_known values [] h k = tt
leaves_known values (e ∷ es) h k =
    let parted = split (blob_of e.1.0 e.1.1) (blobs_of es) k in
    ((first (is_leaf e.1.0 e.1.1) _ h, parted.0), leaves_known values es (second (is_leaf e.1.0 e.1.1) _ h) parted.1)
  where
    split : (o : Option Value) (vs : List Value) → AllByRecursion (IsIn values) (cons_option o vs) → IfSome o (IsIn values) × AllByRecursion (IsIn values) vs
    split None vs i = (tt, i)
    split (Some v) vs i = i

leaves_proper : (values : List Value) (f : FileMap Bytes) → AllLeaves (IsKnownLeaf values) f → T (list_all (λ e. is_leaf e.1.0 e.1.1) f)
leaves_proper values [] h = tt
leaves_proper values (e ∷ es) h = both (is_leaf e.1.0 e.1.1) _ h.0.0 (leaves_proper values es h.1)

blobs_known : (values : List Value) (f : FileMap Bytes) → AllLeaves (IsKnownLeaf values) f → AllByRecursion (IsIn values) (blobs_of f)
blobs_known values [] h = tt
blobs_known values (e ∷ es) h = joined (blob_of e.1.0 e.1.1) (blobs_of es) h.0.1 (blobs_known values es h.1)
  where
    joined : (o : Option Value) (vs : List Value) → IfSome o (IsIn values) → AllByRecursion (IsIn values) vs → AllByRecursion (IsIn values) (cons_option o vs)
    joined None vs i is = is
    joined (Some v) vs i is = (i, is)

-- with more values
pub leaves_later : (vs ws : List Value) → ((u : Value) → IsIn vs u → IsIn ws u) → (f : FileMap Bytes) → AllLeaves (IsKnownLeaf vs) f → AllLeaves (IsKnownLeaf ws) f
leaves_later vs ws k [] h = tt
leaves_later vs ws k (e ∷ es) h = ((h.0.0, known (blob_of e.1.0 e.1.1) h.0.1), leaves_later vs ws k es h.1)
  where
    known : (o : Option Value) → IfSome o (IsIn vs) → IfSome o (IsIn ws)
    known None i = tt
    known (Some v) i = k v i

module _ (name : Kind → Bytes → Bytes) where
  pub files_leaves : (values : List Value) (f names : FileMap Bytes) → AreFiles name values f names → AllLeaves (IsKnownLeaf values) f
  files_leaves values f names h = leaves_known values f (second (is_file_map f) _ (passes _ h.content)) h.known

  -- files with these names, which are those of a file map
  pub files_named : (values : List Value) (g names : FileMap Bytes) → named_map name g ≡ names → IsNameMap names → AllLeaves (IsKnownLeaf values) g → AreFiles name values g names
  files_named values g names e m h =
      let tells = file_map_leafed (λ (leaf : Leaf Bytes). let named : Leaf Bytes = (leaf.0, content_name name leaf.0 leaf.1) in named) g in
      let is : IsTrue (is_file_map g) = sym tells ∙ subst (λ z. IsTrue (is_file_map z)) (sym e) m.file_map in
      record { named = sym e; content = is_true _ (both (is_file_map g) _ (passes _ is) (leaves_proper values g h)); known = blobs_known values g h }
