-- What a held tree's entries name, and a walk down them step by step.
use Rattle.std.proofs.Common.{◌≡◌, ℕ, zero, suc, ◌+◌, ◌<◌, ◌≤◌, true, false, cond, refl, sym, ap, subst, ◌∙◌, arith, List, [], ◌∷◌, length, drop, Option, None, Some}
use Rattle.std.specs.Prelude.{T, IfSome, IsTrue, slice_index_or}
use Rattle.std.specs.Option.{option_map}
use Rattle.gx_model.specs.declared.objects.Kind.{Kind}
use Rattle.gx_model.specs.declared.objects.Kind.TheVariants as kind
use Rattle.gx_model.specs.declared.objects.Mode.{Mode}
use Rattle.gx_model.specs.declared.objects.Mode.TheVariants.{File, Exec, Link, Gitlink, Dir}
use Rattle.gx_model.specs.Texts.{Bytes}
use Rattle.gx_model.specs.Texts.Paths.{Path}
use Rattle.gx_model.specs.Histories.Files.{FileMap, Leaf, file_at, sub_map}
use Rattle.gx_model.specs.Histories.Values.{is_leaf, tree_value}
use Rattle.gx_model.specs.Objects.{Entry, IsNamer, IsTreeText, is_dir}
use Rattle.gx_model.specs.Records.{content_name, tree_name}
use Rattle.gx_model.specs.Histories.{IsIn, Record, Records, object_of}
use Rattle.gx_model.specs.Records.HistoryOf.{entries_in, files_of_tree, history_of, value_of_name}
use Rattle.gx_model.specs.Records.Growth.{record_named}
use Rattle.gx_model.specs.Records.RecordFaults.{is_held}
use Rattle.gx_model.specs.Records.Sound.{IsSound}
use Rattle.gx_model.specs.Records.Walks.{entries_named, entry_at, entry_for, place_at_end, place_of, walked, walked_from}
use Rattle.gx_model.proofs.ObjectTexts.BodiesReadBack.{entries_read}
use Rattle.gx_model.proofs.Records.GrownRecords.{distinct_of}
use Rattle.gx_model.proofs.Records.HistoriesExist.{stands}
use Rattle.gx_model.proofs.ObjectTexts.RebuiltValues.{has_some}
use Rattle.gx_model.proofs.ObjectTexts.TreePaths.{entries_of, leaf_at, sub_in}
use Rattle.gx_model.proofs.Records.TreeWalks.{entry_of, some_sub}
use Rattle.gx_object.specs.declared.name.Name.{Name}
use Rattle.gx_rev.specs.Places.{IsHeldPlace, place_of_entry, shown_place}
use Rattle.gx_model.proofs.Records.HeldValues.{all_whole, tree_stands, value_held}
use Rattle.gx_model.proofs.Records.HeldTrees.{content}

-- from a place on: down a tree, or the end of the path
abbrev pub walked_on : List Record → Leaf Bytes → Path → Option (Leaf Bytes)
walked_on records place path = cond (is_dir place.0) (walked records place.1 path) (place_at_end path place)

-- a path from a place on
pub path_from : (path : Path) (i : ℕ) (c : Bytes) → i < length path → c ≡ slice_index_or path i [] → drop i path ≡ c ∷ drop (i + 1) path
path_from [] i c h e = absurd (omega arith)
path_from (d ∷ p) zero c h e = ap (λ x. x ∷ p) (sym e)
path_from (d ∷ p) (suc i) c h e = let next : suc i + 1 ≡ suc (i + 1) = omega arith in rw next (path_from p i c (omega arith) e)

pub path_ends : (path : Path) (i : ℕ) → length path ≤ i → drop i path ≡ []
path_ends [] zero h = refl
path_ends [] (suc i) h = refl
path_ends (d ∷ p) zero h = absurd (omega arith)
path_ends (d ∷ p) (suc i) h = path_ends p i (omega arith)

pub dir_is : (m : Mode) → true ≡ is_dir m → m ≡ Dir
dir_is File h = absurd cc
dir_is Exec h = absurd cc
dir_is Link h = absurd cc
dir_is Gitlink h = absurd cc
dir_is Dir h = refl

-- nothing stands below a file
pub below_file : (records : List Record) (place : Leaf Bytes) (c : Bytes) (path : Path) → false ≡ is_dir place.0 → None ≡ walked_on records place (c ∷ path)
below_file records place c path h = rw (← h) refl

-- at the end of the path
pub at_end : (records : List Record) (place : Leaf Bytes) → Some place ≡ walked_on records place []
at_end records (File, n) = refl
at_end records (Exec, n) = refl
at_end records (Link, n) = refl
at_end records (Gitlink, n) = refl
at_end records (Dir, n) = refl

-- one component further
pub next_place : (records : List Record) (called c : Bytes) (path : Path) (place : Leaf Bytes) → Some place ≡ option_map place_of_entry (entry_at (entries_named records called) c) → walked records called (c ∷ path) ≡ walked_on records place path
next_place records called c path place e = by (entry_at (entries_named records called) c) refl e
  where
    by : (o : Option Entry) → entry_at (entries_named records called) c ≡ o → Some place ≡ option_map place_of_entry o → walked_from (entry_at (entries_named records called) c) path (λ below. walked records below path) ≡ walked_on records place path
    by None k l = absurd cc
    by (Some x) k l =
        let same : place ≡ place_of_entry x = cc l in
        rw (k, same) refl

pub no_place : (records : List Record) (called c : Bytes) (path : Path) → None ≡ option_map place_of_entry (entry_at (entries_named records called) c) → walked records called (c ∷ path) ≡ None
no_place records called c path e = by (entry_at (entries_named records called) c) refl e
  where
    by : (o : Option Entry) → entry_at (entries_named records called) c ≡ o → None ≡ option_map place_of_entry o → walked_from (entry_at (entries_named records called) c) path (λ below. walked records below path) ≡ None
    by None k l = rw k refl
    by (Some x) k l = absurd cc

-- down a tree
pub down : (records : List Record) (m : Mode) (called c : Bytes) (path : Path) (place : Leaf Bytes) → true ≡ is_dir m → Some place ≡ option_map place_of_entry (entry_at (entries_named records called) c) → walked_on records (m, called) (c ∷ path) ≡ walked_on records place path
down records m called c path place h e = rw (← h) (next_place records called c path place e)

pub down_none : (records : List Record) (m : Mode) (called c : Bytes) (path : Path) → true ≡ is_dir m → None ≡ option_map place_of_entry (entry_at (entries_named records called) c) → walked_on records (m, called) (c ∷ path) ≡ None
down_none records m called c path h e = rw (← h) (no_place records called c path e)

-- the entries that a look-up's body has
pub entries_got : (records : List Record) (called : Bytes) (k : Kind) (body : Bytes) (es : List Entry) → Some (k, body) ≡ option_map object_of (record_named records called) → IsTreeText es body → entries_named records called ≡ es
entries_got records called k body es e t = by (record_named records called) refl e
  where
    by : (o : Option Record) → record_named records called ≡ o → Some (k, body) ≡ option_map object_of o → entries_named records called ≡ es
    by None f g = absurd cc
    by (Some s) f g =
        let same : body ≡ s.body = (let h : (k, body) ≡ object_of s = cc g in ap (λ z. z.1) h) in
        ap (λ (p : Option Record). elim p [ None ↦ [] | Some held ↦ entries_in held.body ]) f ∙ ap entries_in (sym same) ∙ entries_read es body t

module _ (name : Kind → Bytes → Bytes) (namer : IsNamer name) (r : Records) (sound : IsSound name r) where
  abbrev Files : Bytes → FileMap Bytes
  Files n = files_of_tree (value_of_name r.records n)

  dir_by : (f : FileMap Bytes) (c : Bytes) (e : Entry) (o : Option (Leaf Bytes)) (g : FileMap Bytes) → IsIn (history_of r).values (tree_value f) → file_at f (c ∷ []) ≡ o → sub_map f (c ∷ []) ≡ g → Some e ≡ entry_for name c (place_of name o g) → e.mode ≡ Dir → IsTrue (is_held r.records kind.Tree e.name)
  dir_by f c e (Some x) g i k l m d =
      let a : e.mode ≡ x.0 = (let s : e ≡ record { mode = x.0; component = c; name = content_name name x.0 x.1 } = cc m in ap (λ z. z.mode) s) in
      absurd (no_dir x.0 x.1 (leaf_at name namer f (c ∷ []) x (content name namer r sound f i) k) (sym a ∙ d))
    where
      no_dir : (m : Mode) (x : Bytes) → T (is_leaf m x) → m ≡ Dir → ⊥
      no_dir m x h s = let z : T (is_leaf Dir x) = subst (λ q. T (is_leaf q x)) s h in z
  dir_by f c e None [] i k l m d = absurd cc
  dir_by f c e None (x ∷ xs) i k l m d =
      let a : e.name ≡ tree_name name (x ∷ xs) = (let s : e ≡ record { mode = Dir; component = c; name = tree_name name (x ∷ xs) } = cc m in ap (λ z. z.name) s) in
      let some : T (has_some (sub_map f (c ∷ []))) = subst (λ g. T (has_some g)) (sym l) tt in
      let j = sub_in name namer (history_of r).values (all_whole name namer r sound) (distinct_of name namer r (history_of r) (stands name namer r sound)) f c i (some_sub name namer c f some) k in
      (value_held name namer r sound kind.Tree (tree_value (sub_map f (c ∷ []))) e.name j refl (a ∙ ap (tree_name name) (sym l))).0

  -- an entry that is a directory names a held tree
  pub dir_held : (n c : Bytes) (e : Entry) → IsTrue (is_held r.records kind.Tree n) → entry_at (entries_of name namer (Files n)) c ≡ Some e → e.mode ≡ Dir → IsTrue (is_held r.records kind.Tree e.name)
  dir_held n c e h k d =
      let s = tree_stands name namer r sound n h in
      dir_by (Files n) c e (file_at (Files n) (c ∷ [])) (sub_map (Files n) (c ∷ [])) s.1 refl refl (sym k ∙ entry_of name namer (Files n) c (content name namer r sound (Files n) s.1)) d

  pub place_held : (n c : Bytes) (es : List Entry) (result : Option (Mode × Name)) → IsTrue (is_held r.records kind.Tree n) → es ≡ entries_of name namer (Files n) → option_map shown_place result ≡ option_map place_of_entry (entry_at es c) → IfSome result (IsHeldPlace r)
  place_held n c es None h s e = tt
  place_held n c es (Some p) h s e = by (entry_at es c) refl e
    where
      by : (o : Option Entry) → entry_at es c ≡ o → Some (shown_place p) ≡ option_map place_of_entry o → IsHeldPlace r p
      by None k l = absurd cc
      by (Some x) k l =
          let same : shown_place p ≡ place_of_entry x = cc l in
          λ d. subst (λ z. IsTrue (is_held r.records kind.Tree z)) (sym (ap (λ z. z.1) same)) (dir_held n c x h (ap (λ l. entry_at l c) (sym s) ∙ k) (sym (ap (λ z. z.0) same) ∙ d))
