-- What differs at one component of two directories: a file of either, or two files, or directories.
use Rattle.std.proofs.Common.{◌≡◌, ◌≢◌, ◌∙◌, ℕ, ◌-◌, ◌<◌, Bool, true, false, cond, not, List, [], ◌∷◌, ◌++◌, map, length, Option, Some, None, refl, sym, ap, subst, append_assoc, append-nil}
use Rattle.std.specs.Prelude.{is_some, nat_eq, ◌&&◌, ⊤}
use Rattle.std.specs.Bool.{passes}
use Rattle.std.specs.List.{filter, list_all, AllByRecursion}
use Rattle.std.specs.FinMap.Entries.{below_all, is_sorted}
use Rattle.std.proofs.lemmas.Bool.{and_from, and_parts, false≢true}
use Rattle.std.proofs.lemmas.List.{append_cancel_right}
use Rattle.gx_model.specs.declared.objects.Kind.{Kind}
use Rattle.gx_model.specs.declared.objects.Mode.{Mode}
use Rattle.gx_model.specs.declared.objects.Mode.TheVariants.{File, Exec, Link, Gitlink, Dir}
use Rattle.gx_model.specs.Changes.{changed_files, gone_paths, is_this_leaf}
use Rattle.gx_model.specs.Histories.Files.{FileMap, Leaf, file_at}
use Rattle.gx_model.specs.Histories.Values.{same_mode}
use Rattle.gx_model.specs.Histories.{Records}
use Rattle.gx_model.specs.Objects.{Entry as TreeEntry, IsNamer}
use Rattle.gx_model.specs.Objects.NameMaps.{IsHeldTree}
use Rattle.gx_model.specs.Records.HistoryOf.{placed}
use Rattle.gx_model.specs.Records.Sound.{IsHeldAs}
use Rattle.gx_model.specs.Texts.{Bytes, same_bytes}
use Rattle.gx_model.specs.Texts.Paths.{Path, is_component, path_cmp, same_path}
use Rattle.gx_model.proofs.Histories.FileMapEdits.{Parts, parts_of}
use Rattle.gx_model.proofs.Histories.PathRuns.{tail_parts}
use Rattle.gx_model.proofs.Texts.PathTests.{component_free, first, is_true, path_is, path_same}
use Rattle.gx_model.proofs.Histories.SameFileMaps.{none_below}
use Rattle.gx_object.specs.declared.entry.Entry.{Entry}
use Rattle.gx_object.specs.Entries.{shown}
use Rattle.gx_tree.specs.HeldTrees.{IsHeldWithin}
use Rattle.gx_tree.specs.Lists.{below}
use Rattle.gx_tree.specs.Nodes.{Kept, Level, file, files, folder, key}
use Rattle.gx_tree.specs.Writes.{kept_leaf, map_name}
use Rattle.gx_tree.proofs.Below.{file_at-placed}
use Rattle.gx_tree.proofs.Listed.{below-placed}
use Rattle.gx_tree.proofs.Texts.{bytes_are, same_itself}
use Rattle.gx_tree.proofs.TreeRecords.{kept_entry}
use Rattle.gx_export.specs.Compared.{HasFileIf, IsBelowIf, IsPair, IsPairBelow, file_if, or_other, path_unless, paths_below}
use Rattle.gx_export.specs.FileTexts.{IsEntryBelow, IsTreeBelow}
use Rattle.gx_export.specs.Pairs.{is_same, name_if, names_same, shown_if}
use Rattle.gx_export.specs.declared.pairs.Pair.{Pair}
use Rattle.gx_export.proofs.OneMap.{one_map}
use Rattle.gx_export.proofs.SideBySide.{both_entries}

-- ---- a key tells the component and the kind

-- both are files, or both are directories
abbrev IsAlike : Kept → Kept → Type 0
IsAlike (file x) (file y) = ⊤
IsAlike (folder f) (folder g) = ⊤
IsAlike _ _ = ⊥

and_false : (b : Bool) → (b && false) ≡ false
and_false true = refl
and_false false = refl

slash_last : (d : Bytes) → list_all (λ b. not (nat_eq b 47)) (d ++ 47 ∷ []) ≡ false
slash_last [] = refl
slash_last (x ∷ d) = ap (λ b. not (nat_eq x 47) && b) (slash_last d) ∙ and_false (not (nat_eq x 47))

no_slash : (c d : Bytes) → is_component c ≡ true → c ≡ d ++ 47 ∷ [] → ⊥
no_slash c d h e =
    let free = is_true _ (component_free c (passes _ h)).0 in
    false≢true (sym (slash_last d) ∙ ap (list_all (λ b. not (nat_eq b 47))) (sym e) ∙ free)

keys_tell : (c d : Bytes) (k l : Kept) → is_component c ≡ true → is_component d ≡ true → key c k ≡ key d l → (c ≡ d) × IsAlike k l
keys_tell c d (file x) (file y) h j e = (sym (append-nil c) ∙ e ∙ append-nil d, tt)
keys_tell c d (folder f) (folder g) h j e = (append_cancel_right c d (47 ∷ []) e, tt)
keys_tell c d (file x) (folder g) h j e = absurd (no_slash c d h (sym (append-nil c) ∙ e))
keys_tell c d (folder f) (file y) h j e = absurd (no_slash d c j (sym (append-nil d) ∙ sym e))

-- ---- a file map differs in nothing from itself

module _ where
  abbrev StandIn : FileMap Bytes → FileMap Bytes → Type 0
  StandIn all es = AllByRecursion (λ e. file_at all e.0 ≡ Some e.1) es

  stand_later : (e : Path × Leaf Bytes) (all es : FileMap Bytes) → file_at all e.0 ≡ None → StandIn all es → StandIn (e ∷ all) es
  stand_later e all [] n k = tt
  stand_later e all (f ∷ es) n k = (
    elim (same_path f.0 e.0) as (λ b. same_path f.0 e.0 ≡ b → cond b (Some e.1) (file_at all f.0) ≡ Some f.1) [
      | true ↦ λ i. let never = sym n ∙ ap (file_at all) (sym (path_is f.0 e.0 (passes _ i))) ∙ k.0 in absurd (cc never)
      | false ↦ λ i. k.0
    ] refl,
    stand_later e all es n k.1,
  )

  all_stand : (es : FileMap Bytes) → Parts es → StandIn es es
  all_stand [] h = tt
  all_stand (e ∷ es) h = (
    ap (λ b. cond b (Some e.1) (file_at es e.0)) (is_true _ (path_same e.0)),
    stand_later e es es (none_below e.0 es (first (below_all path_cmp e.0 es) (is_sorted path_cmp es) h.sorted)) (all_stand es (tail_parts e es h)),
  )

  mode_same : (m : Mode) → same_mode m m ≡ true
  mode_same File = refl
  mode_same Exec = refl
  mode_same Link = refl
  mode_same Gitlink = refl
  mode_same Dir = refl

  leaf_same : (x : Leaf Bytes) → is_this_leaf (Some x) x ≡ true
  leaf_same x = and_from _ _ (mode_same x.0) (same_itself x.1)

  none_changed : (old es : FileMap Bytes) → StandIn old es → changed_files old es ≡ []
  none_changed old [] h = refl
  none_changed old (e ∷ es) h = let here = ap (λ o. is_this_leaf o e.1) h.0 ∙ leaf_same e.1 in let rest = none_changed old es h.1 in λ i. cond (not (here i)) (e ∷ rest i) (rest i)

  none_left : (new es : FileMap Bytes) → StandIn new es → filter (λ e. not (is_some (file_at new e.0))) es ≡ []
  none_left new [] h = refl
  none_left new (e ∷ es) h = let here = ap is_some h.0 in let rest = none_left new es h.1 in λ i. cond (not (here i)) (e ∷ rest i) (rest i)

  pub same_map : (f : FileMap Bytes) → Parts f → (changed_files f f ≡ []) × (gone_paths f f ≡ [])
  same_map f h = let all = all_stand f h in (none_changed f f all, ap (map (λ e. e.0)) (none_left f f all))

-- ---- below a component

changed_placed : (c : Bytes) (f g : FileMap Bytes) → changed_files (placed c f) (placed c g) ≡ placed c (changed_files f g)
changed_placed c f [] = refl
changed_placed c f (e ∷ g) =
    let here = ap (λ o. is_this_leaf o e.1) (file_at-placed c e.0 f) in
    let rest = changed_placed c f g in
    (λ i. cond (not (here i)) ((c ∷ e.0, e.1) ∷ rest i) (rest i))
    ∙ elim (not (is_this_leaf (file_at f e.0) e.1)) as (λ b. cond b ((c ∷ e.0, e.1) ∷ placed c (changed_files f g)) (placed c (changed_files f g)) ≡ placed c (cond b (e ∷ changed_files f g) (changed_files f g))) [ true ↦ refl | false ↦ refl ]

gone_placed : (c : Bytes) (f g : FileMap Bytes) → gone_paths (placed c f) (placed c g) ≡ map (λ p. c ∷ p) (gone_paths f g)
gone_placed c [] g = refl
gone_placed c (e ∷ f) g =
    let here = ap is_some (file_at-placed c e.0 g) in
    let left = filter (λ x. not (is_some (file_at (placed c g) x.0))) (placed c f) in
    let kept = filter (λ x. not (is_some (file_at g x.0))) f in
    let rest = gone_placed c f g in
    (λ i. map (λ x. x.0) (cond (not (here i)) ((c ∷ e.0, e.1) ∷ left) left))
    ∙ elim (not (is_some (file_at g e.0))) as (λ b. map (λ x. x.0) (cond b ((c ∷ e.0, e.1) ∷ left) left) ≡ map (λ p. c ∷ p) (map (λ x. x.0) (cond b (e ∷ kept) kept))) [ true ↦ ap (λ ps. (c ∷ e.0) ∷ ps) rest | false ↦ rest ]

paths_placed : (front : Path) (c : Bytes) (ps : List Path) → paths_below (front ++ c ∷ []) ps ≡ paths_below front (map (λ p. c ∷ p) ps)
paths_placed front c [] = refl
paths_placed front c (p ∷ ps) = let one = append_assoc front (c ∷ []) p in let rest = paths_placed front c ps in λ i. one i ∷ rest i

one_directory : (c : Bytes) (f : FileMap Bytes) → files ((c, folder f) ∷ []) ≡ placed c f
one_directory c f = append-nil (placed c f)

-- what differs below a component of two directories
module _ (front : Path) (c : Bytes) (f g : FileMap Bytes) where
  names_below : (os ns : FileMap Bytes) → os ≡ placed c f → ns ≡ placed c g → below (front ++ c ∷ []) (changed_files f g) ≡ below front (changed_files os ns)
  names_below os ns o n = below-placed front c (changed_files f g) ∙ ap (below front) (sym (changed_placed c f g) ∙ (λ i. changed_files (sym o i) (sym n i)))

  gone_below : (os ns : FileMap Bytes) → os ≡ placed c f → ns ≡ placed c g → paths_below (front ++ c ∷ []) (gone_paths f g) ≡ paths_below front (gone_paths os ns)
  gone_below os ns o n = paths_placed front c (gone_paths f g) ∙ ap (paths_below front) (sym (gone_placed c f g) ∙ (λ i. gone_paths (sym o i) (sym n i)))

-- ---- two files at one component

other_file : (c d : Bytes) (x y : Leaf Bytes) → c ≡ d → is_this_leaf (Some x) y ≡ false → (changed_files ((c ∷ [], x) ∷ []) ((d ∷ [], y) ∷ []) ≡ (d ∷ [], y) ∷ []) × (gone_paths ((c ∷ [], x) ∷ []) ((d ∷ [], y) ∷ []) ≡ [])
other_file c d x y e n = subst (λ (b : Bytes). (changed_files ((b ∷ [], x) ∷ []) ((d ∷ [], y) ∷ []) ≡ (d ∷ [], y) ∷ []) × (gone_paths ((b ∷ [], x) ∷ []) ((d ∷ [], y) ∷ []) ≡ [])) (sym e)
    (rw (same_itself d, n) refl, rw (same_itself d) refl)

same_file : (c d : Bytes) (x y : Leaf Bytes) → c ≡ d → is_this_leaf (Some x) y ≡ true → (changed_files ((c ∷ [], x) ∷ []) ((d ∷ [], y) ∷ []) ≡ []) × (gone_paths ((c ∷ [], x) ∷ []) ((d ∷ [], y) ∷ []) ≡ [])
same_file c d x y e n = subst (λ (b : Bytes). (changed_files ((b ∷ [], x) ∷ []) ((d ∷ [], y) ∷ []) ≡ []) × (gone_paths ((b ∷ [], x) ∷ []) ((d ∷ [], y) ∷ []) ≡ [])) (sym e)
    (rw (same_itself d, n) refl, rw (same_itself d) refl)

module _ (name : Kind → Bytes → Bytes) (namer : IsNamer name) (r : Records) (room : ℕ) (front : Path) where
  abbrev Below : Bytes × Kept → Type 0
  Below e = IsEntryBelow name r room front e

  -- ---- pairs that are the same

  same_kept : (c d : Bytes) (k l : Kept) → Below (c, k) → Below (d, l) → (c ≡ d) → IsAlike k l → names_same (kept_entry name (c, k)) (kept_entry name (d, l)) ≡ true
      → (changed_files (files ((c, k) ∷ [])) (files ((d, l) ∷ [])) ≡ []) × (gone_paths (files ((c, k) ∷ [])) (files ((d, l) ∷ [])) ≡ [])
  same_kept c d (file x) (file y) h j e a n = same_file c d x y e n
  same_kept c d (folder f) (folder g) h j e a n =
      let names : map_name name f ≡ map_name name g = bytes_are (map_name name f) (map_name name g) (and_parts (same_mode Dir Dir) (same_bytes (map_name name f) (map_name name g)) n).1 in
      let same : f ≡ g = one_map name r.records namer (map_name name f) f g h.entry.1.0 (subst (λ m. IsHeldTree name r.records m g) (sym names) j.entry.1.0) in
      let none = same_map f (parts_of f h.entry.1.0.map.file_map) in
      let old = one_directory c f in
      let new = ap (λ t. files t) (λ i. ((sym e i), folder (sym same i)) ∷ []) ∙ old in
      ((λ i. changed_files (old i) (new i)) ∙ changed_placed c f f ∙ ap (placed c) none.0, (λ i. gone_paths (old i) (new i)) ∙ gone_placed c f f ∙ ap (map (λ p. c ∷ p)) none.1)
  same_kept c d (file x) (folder g) h j e a n = absurd a
  same_kept c d (folder f) (file y) h j e a n = absurd a

  same_levels : (os ns : Level) → IsPair (os, ns) → AllByRecursion Below os → AllByRecursion Below ns → is_same (map (kept_entry name) os, map (kept_entry name) ns) ≡ true → (changed_files (files os) (files ns) ≡ []) × (gone_paths (files os) (files ns) ≡ [])
  same_levels (e ∷ []) (d ∷ []) s h j n =
      let tell = keys_tell e.0 d.0 e.1 d.1 h.0.component j.0.component s in
      same_kept e.0 d.0 e.1 d.1 h.0 j.0 tell.0 tell.1 n
  same_levels [] ns s h j n = absurd (cc n)
  same_levels (e ∷ []) [] s h j n = absurd (cc n)
  same_levels (e ∷ []) (d ∷ b ∷ ns) s h j n = absurd s
  same_levels (e ∷ b ∷ os) ns s h j n = absurd (no_two e b os ns s)
    where
      no_two : (e b : Bytes × Kept) (os ns : Level) → IsPair (e ∷ b ∷ os, ns) → ⊥
      no_two e b os [] s = s
      no_two e b os (d ∷ []) s = s
      no_two e b os (d ∷ a ∷ ns) s = s

  -- a pair that is the same differs in nothing
  pub same_pair : (item : List TreeEntry × List TreeEntry) (p : Level × Level) → item ≡ both_entries name p → IsPair p → AllByRecursion Below p.0 → AllByRecursion Below p.1 → is_same item ≡ true → (changed_files (files p.0) (files p.1) ≡ []) × (gone_paths (files p.0) (files p.1) ≡ [])
  same_pair item p told s h j n = same_levels p.0 p.1 s h j (ap is_same (sym told) ∙ n)

  -- ---- pairs that differ

  -- what an entry stands for
  pub record IsChosen (e : Entry) : Type 0 where
    pub kept : Kept
    pub below : Below (e.component.now, kept)
    pub leaf : kept_leaf name kept ≡ (e.mode, e.name.bytes)

  -- a file that is gone, or is new or another
  pub record IsFilePair (path : Path) (new : Option Entry) (os ns : FileMap Bytes) : Type 0 where
    pub held : HasFileIf r new
    pub names : file_if path new ≡ below front (changed_files os ns)
    pub gone : path_unless path new ≡ paths_below front (gone_paths os ns)

  -- directories that differ, with those below them
  pub record AreFolders (c : Bytes) (o n : Option Entry) (os ns : FileMap Bytes) (f g : FileMap Bytes) : Type 0 where
    pub olds : IsBelowIf name r (room - length c - 1) (front ++ c ∷ []) (name_if o) f
    pub news : IsBelowIf name r (room - length c - 1) (front ++ c ∷ []) (name_if n) g
    pub names : below (front ++ c ∷ []) (changed_files f g) ≡ below front (changed_files os ns)
    pub gone : paths_below (front ++ c ∷ []) (gone_paths f g) ≡ paths_below front (gone_paths os ns)

  abbrev pub IsFolderPair : Bytes → Option Entry → Option Entry → FileMap Bytes → FileMap Bytes → Type 0
  IsFolderPair c o n os ns = (length c < room) × ((f : FileMap Bytes) × (g : FileMap Bytes) × AreFolders c o n os ns f g)

  pub record IsOfPair (e : Entry) (o n : Option Entry) (os ns : Level) : Type 0 where
    pub chosen : IsChosen e
    pub file : (e.mode ≢ Dir) → (path : Path) → path ≡ front ++ e.component.now ∷ [] → is_same (shown_if o, shown_if n) ≡ false → IsFilePair path n (files os) (files ns)
    pub folder : e.mode ≡ Dir → IsFolderPair e.component.now o n (files os) (files ns)

  module _ (e : Entry) (k : Kept) where
    abbrev c : Bytes
    c = e.component.now

    -- the same, where the entry's own component is told
    abbrev IsHere : Type 0
    IsHere = Below (c, k) × (kept_leaf name k ≡ (e.mode, e.name.bytes))

  -- what is told of an entry
  told_here : (e : Entry) (x : Bytes × Kept) → shown e ∷ [] ≡ kept_entry name x ∷ [] → Below x → ((e.component.now, x.1) ≡ x) × IsHere e x.1
  told_here e x t h =
      let one : shown e ≡ kept_entry name x = cc t in
      let component : e.component.now ≡ x.0 = ap (λ z. z.component) one in
      let same : (e.component.now, x.1) ≡ x = (λ i. (component i, x.1)) in
      (same, (subst Below (sym same) h, λ i. ((sym one i).mode, (sym one i).name)))

  held_file : (e : Entry) (z : Leaf Bytes) → IsHere e (file z) → (e.mode ≢ Dir) → HasFileIf r (Some e)
  held_file e z h d = (d, subst (λ (x : Leaf Bytes). IsHeldAs r.records x.0 x.1) h.1 h.0.held.0)

  tree_below : (e : Entry) (f : FileMap Bytes) → IsHere e (folder f) → IsTreeBelow name r (room - length e.component.now - 1) (front ++ e.component.now ∷ []) e.name.bytes f
  tree_below e f h = record {
    within = subst (λ m. IsHeldWithin name r.records (room - length e.component.now - 1) m f) (ap (λ x. x.1) h.1) h.0.entry.1;
    paths = h.0.paths;
    held = h.0.held;
  }

  old_alone : (e : Entry) (k : Kept) → IsHere e k → IsOfPair e (Some e) None ((e.component.now, k) ∷ []) []
  old_alone e (file z) h = record {
    chosen = record { kept = file z; below = h.0; leaf = h.1 };
    file = λ d path at n. record { held = tt; names = refl; gone = ap (λ (p : Path). p ∷ []) at };
    folder = λ d. absurd (h.0.entry (ap (λ x. x.0) h.1 ∙ d));
  }
  old_alone e (folder f) h = record {
    chosen = record { kept = folder f; below = h.0; leaf = h.1 };
    file = λ d path at n. absurd (d (ap (λ x. x.0) (sym h.1)));
    folder = λ d. (
      h.0.entry.0,
      (
        f,
        [],
        record {
          olds = tree_below e f h;
          news = refl;
          names = refl;
          gone = gone_below front e.component.now f [] (files ((e.component.now, folder f) ∷ [])) [] (one_directory e.component.now f) refl;
        },
      ),
    );
  }

  new_alone : (e : Entry) (k : Kept) → IsHere e k → IsOfPair e None (Some e) [] ((e.component.now, k) ∷ [])
  new_alone e (file z) h = record {
    chosen = record { kept = file z; below = h.0; leaf = h.1 };
    file = λ d path at n. record { held = held_file e z h d; names = (λ i. (at i, sym h.1 i) ∷ []); gone = refl };
    folder = λ d. absurd (h.0.entry (ap (λ x. x.0) h.1 ∙ d));
  }
  new_alone e (folder f) h = record {
    chosen = record { kept = folder f; below = h.0; leaf = h.1 };
    file = λ d path at n. absurd (d (ap (λ x. x.0) (sym h.1)));
    folder = λ d. (
      h.0.entry.0,
      (
        [],
        f,
        record {
          olds = refl;
          news = tree_below e f h;
          names = names_below front e.component.now [] f [] (files ((e.component.now, folder f) ∷ [])) refl (one_directory e.component.now f);
          gone = refl;
        },
      ),
    );
  }

  both_there : (e d : Entry) (k l : Kept) → IsHere e k → IsHere d l → e.component.now ≡ d.component.now → IsAlike k l → IsOfPair e (Some e) (Some d) ((e.component.now, k) ∷ []) ((d.component.now, l) ∷ [])
  both_there e d (file x) (file y) h j s a = record {
    chosen = record { kept = file x; below = h.0; leaf = h.1 };
    file = λ m path at n.
        let other : is_this_leaf (Some x) y ≡ false = (λ i. is_this_leaf (Some (h.1 i)) (j.1 i)) ∙ n in
        let two = other_file e.component.now d.component.now x y s other in
        record {
          held = held_file d y j (λ q. j.0.entry (ap (λ z. z.0) j.1 ∙ q));
          names = (λ i. ((at ∙ ap (λ (b : Bytes). front ++ b ∷ []) s) i, sym j.1 i) ∷ []) ∙ ap (below front) (sym two.0);
          gone = ap (paths_below front) (sym two.1);
        };
    folder = λ m. absurd (h.0.entry (ap (λ z. z.0) h.1 ∙ m));
  }
  both_there e d (folder f) (folder g) h j s a = record {
    chosen = record { kept = folder f; below = h.0; leaf = h.1 };
    file = λ m path at n. absurd (m (ap (λ z. z.0) (sym h.1)));
    folder = λ m.
        let old = one_directory e.component.now f in
        let new = one_directory d.component.now g ∙ ap (λ (b : Bytes). placed b g) (sym s) in (
          h.0.entry.0,
          (
            f,
            g,
            record {
              olds = tree_below e f h;
              news = subst (λ (b : Bytes). IsTreeBelow name r (room - length b - 1) (front ++ b ∷ []) d.name.bytes g) (sym s) (tree_below d g j);
              names = names_below front e.component.now f g (files ((e.component.now, folder f) ∷ [])) (files ((d.component.now, folder g) ∷ [])) old new;
              gone = gone_below front e.component.now f g (files ((e.component.now, folder f) ∷ [])) (files ((d.component.now, folder g) ∷ [])) old new;
            },
          ),
        );
  }
  both_there e d (file x) (folder g) h j s a = absurd a
  both_there e d (folder f) (file y) h j s a = absurd a

  -- a pair, by the entry that is chosen
  pair_levels : (o n : Option Entry) (os ns : Level) → shown_if o ≡ map (kept_entry name) os → shown_if n ≡ map (kept_entry name) ns → IsPair (os, ns) → AllByRecursion Below os → AllByRecursion Below ns → (e : Entry) → Some e ≡ or_other o n → IsOfPair e o n os ns
  pair_levels (Some a) None (x ∷ []) [] t u s h j e q =
      let same : a ≡ e = cc q in
      let here = told_here a x t h.0 in
      subst (λ (b : Entry). IsOfPair b (Some a) None (x ∷ []) []) same (subst (λ (y : Bytes × Kept). IsOfPair a (Some a) None (y ∷ []) []) here.0 (old_alone a x.1 here.1))
  pair_levels None (Some a) [] (x ∷ []) t u s h j e q =
      let same : a ≡ e = cc q in
      let here = told_here a x u j.0 in
      subst (λ (b : Entry). IsOfPair b None (Some a) [] (x ∷ [])) same (subst (λ (y : Bytes × Kept). IsOfPair a None (Some a) [] (y ∷ [])) here.0 (new_alone a x.1 here.1))
  pair_levels (Some a) (Some b) (x ∷ []) (y ∷ []) t u s h j e q =
      let same : a ≡ e = cc q in
      let old = told_here a x t h.0 in
      let new = told_here b y u j.0 in
      let tell = keys_tell x.0 y.0 x.1 y.1 h.0.component j.0.component s in
      let component = ap (λ (z : Bytes × Kept). z.0) old.0 ∙ tell.0 ∙ ap (λ (z : Bytes × Kept). z.0) (sym new.0) in
      subst (λ (c : Entry). IsOfPair c (Some a) (Some b) (x ∷ []) (y ∷ [])) same
      (subst (λ (z : Bytes × Kept). IsOfPair a (Some a) (Some b) (z ∷ []) (y ∷ [])) old.0
      (subst (λ (z : Bytes × Kept). IsOfPair a (Some a) (Some b) ((a.component.now, x.1) ∷ []) (z ∷ [])) new.0 (both_there a b x.1 y.1 old.1 new.1 component tell.1)))
  pair_levels o None os (x ∷ ns) t u s h j e q = absurd (cc u)
  pair_levels None n (x ∷ os) ns t u s h j e q = absurd (cc t)
  pair_levels (Some a) n [] ns t u s h j e q = absurd (cc t)
  pair_levels o (Some b) os [] t u s h j e q = absurd (cc u)
  pair_levels (Some a) n (x ∷ y ∷ os) ns t u s h j e q = absurd (cc t)
  pair_levels o (Some b) os (x ∷ y ∷ ns) t u s h j e q = absurd (cc u)
  pair_levels None None [] [] t u s h j e q = absurd s

  pub pair_is : (pair : Pair) (p : Level × Level) → IsPairBelow name r room front pair p → (e : Entry) → Some e ≡ or_other pair.old pair.new → IsOfPair e pair.old pair.new p.0 p.1
  pair_is pair p h e q = pair_levels pair.old pair.new p.0 p.1 (ap (λ z. z.0) h.told) (ap (λ z. z.1) h.told) h.shape h.olds h.news e q

  -- one of both is there
  pub one_there : (pair : Pair) (p : Level × Level) → IsPairBelow name r room front pair p → None ≡ or_other pair.old pair.new → ⊥
  one_there pair p h q = by pair.old pair.new p.0 p.1 (ap (λ z. z.0) h.told) (ap (λ z. z.1) h.told) h.shape q
    where
      by : (o n : Option Entry) (os ns : Level) → shown_if o ≡ map (kept_entry name) os → shown_if n ≡ map (kept_entry name) ns → IsPair (os, ns) → None ≡ or_other o n → ⊥
      by (Some a) n os ns t u s q = cc q
      by None (Some b) os ns t u s q = cc q
      by None None [] [] t u s q = s
      by None None (x ∷ os) ns t u s q = cc t
      by None None [] (x ∷ ns) t u s q = cc u
