-- What stands at one component of two directories, and what of it differs.
use Rattle.std.proofs.Common.{◌≡◌, ◌≢◌, ◌∙◌, ℕ, ◌-◌, true, Bool, false, cond, not, List, [], ◌∷◌, ◌++◌, map, length, Option, Some, None, refl, sym, ap, subst, append_assoc, append-nil}
use Rattle.std.specs.Prelude.{IsTrue, nat_eq, ◌&&◌, ⊤}
use Rattle.std.specs.Bool.{passes}
use Rattle.std.specs.Cmp.{tied_itself}
use Rattle.std.specs.List.{filter, list_all, AllByRecursion}
use Rattle.std.specs.declared.cmp.Ordering.{Ordering}
use Rattle.std.specs.declared.cmp.Ordering.TheVariants.{Less, Equal, Greater}
use Rattle.std.proofs.lemmas.Bool.{and_from, and_parts, false≢true}
use Rattle.std.proofs.lemmas.List.{append_cancel_right}
use Rattle.gx_model.specs.declared.objects.Kind.{Kind}
use Rattle.gx_model.specs.declared.objects.Mode.{Mode}
use Rattle.gx_model.specs.declared.objects.Mode.TheVariants.{File, Exec, Link, Gitlink, Dir}
use Rattle.gx_model.specs.Changes.{is_this_leaf}
use Rattle.gx_model.specs.Histories.Files.{FileMap, Leaf}
use Rattle.gx_model.specs.Histories.Values.{same_mode}
use Rattle.gx_model.specs.Histories.{Records}
use Rattle.gx_model.specs.Objects.{Entry as TreeEntry, IsNamer}
use Rattle.gx_model.specs.Objects.NameMaps.{IsHeldTree}
use Rattle.gx_model.specs.Records.HistoryOf.{placed}
use Rattle.gx_model.specs.Texts.{Bytes, same_bytes}
use Rattle.gx_model.specs.Texts.Paths.{Path, is_component, path_cmp}
use Rattle.gx_model.proofs.Histories.FileMapEdits.{parts_of}
use Rattle.gx_model.proofs.Texts.PathTests.{component_free, is_true}
use Rattle.gx_object.specs.declared.entry.Entry.{Entry}
use Rattle.gx_object.specs.Entries.{shown}
use Rattle.gx_tree.specs.HeldTrees.{IsHeldWithin}
use Rattle.gx_tree.specs.Nodes.{Kept, Level, file, files, folder, is_inner_path, key}
use Rattle.gx_tree.specs.Writes.{kept_leaf, map_name}
use Rattle.gx_tree.proofs.Lookups.{AreInner}
use Rattle.gx_tree.proofs.LevelsOf.{file_inner}
use Rattle.gx_tree.proofs.Order.{cmp_below, path_order}
use Rattle.gx_tree.proofs.Texts.{bytes_are, same_itself}
use Rattle.gx_tree.proofs.TreeRecords.{kept_entry}
use Rattle.gx_export.specs.Compared.{IsBelowIf, IsPair, IsPairBelow, or_other}
use Rattle.gx_export.specs.FileTexts.{IsEntryBelow, IsTreeBelow}
use Rattle.gx_export.specs.Pairs.{is_same, name_if, names_same, shown_if, side_by_side, with_old}
use Rattle.gx_export.specs.declared.pairs.Pair.{Pair}
use Rattle.gx_export.proofs.OneMap.{one_map}
use Rattle.gx_export.proofs.SideBySide.{both_entries}
use Rattle.gx_differences.specs.Listed.{Standing, all_standing, by_path, differing, differs, entry_leaf, standing, standing_below, stays}

abbrev Sides : Type 0
Sides = List (FileMap Bytes × FileMap Bytes)

-- ---- below a component

abbrev under : Bytes → List Standing → List Standing
under c ss = map (λ s. (c ∷ s.0, s.1)) ss

cmp_placed : (c : Bytes) (p q : Path) → is_inner_path p ≡ true → is_inner_path q ≡ true → path_cmp (c ∷ p) (c ∷ q) ≡ path_cmp p q
cmp_placed c [] q h j = absurd (false≢true h)
cmp_placed c (d ∷ p) [] h j = absurd (false≢true j)
cmp_placed c (d ∷ p) (e ∷ q) h j = cmp_below c d e p q

new_placed : (c : Bytes) (g : FileMap Bytes) → map standing (map (λ y. ([], y ∷ [])) (placed c g)) ≡ under c (map standing (map (λ y. ([], y ∷ [])) g))
new_placed c [] = refl
new_placed c (y ∷ g) = ap (λ s. (c ∷ y.0, (None, Some y.1)) ∷ s) (new_placed c g)

module _ (c : Bytes) (x : Path × Leaf Bytes) (hx : is_inner_path x.0 ≡ true) (there others : FileMap Bytes → Sides) (rest : (g : FileMap Bytes) → AreInner g → map standing (there (placed c g)) ≡ under c (map standing (others g))) where
  old_placed : (g : FileMap Bytes) → AreInner g → map standing (with_old by_path (c ∷ x.0, x.1) there (placed c g)) ≡ under c (map standing (with_old by_path x others g))
  old_placed [] h = ap (λ s. (c ∷ x.0, (Some x.1, None)) ∷ s) (rest [] h)
  old_placed (y ∷ g) h =
      ap (λ o. map standing (elim o [ Less ↦ ((c ∷ x.0, x.1) ∷ [], []) ∷ there (placed c (y ∷ g)) | Equal ↦ ((c ∷ x.0, x.1) ∷ [], (c ∷ y.0, y.1) ∷ []) ∷ there (placed c g) | Greater ↦ ([], (c ∷ y.0, y.1) ∷ []) ∷ with_old by_path (c ∷ x.0, x.1) there (placed c g) ]))
      (cmp_placed c x.0 y.0 hx (and_parts (is_inner_path y.0) (list_all (λ e. is_inner_path e.0) g) h).0)
      ∙ by (old_placed g (and_parts (is_inner_path y.0) (list_all (λ e. is_inner_path e.0) g) h).1) (by_path x y)
    where
      left : AreInner g
      left = (and_parts (is_inner_path y.0) (list_all (λ e. is_inner_path e.0) g) h).1

      by : map standing (with_old by_path (c ∷ x.0, x.1) there (placed c g)) ≡ under c (map standing (with_old by_path x others g)) → (o : Ordering) → map standing (elim o [ Less ↦ ((c ∷ x.0, x.1) ∷ [], []) ∷ there (placed c (y ∷ g)) | Equal ↦ ((c ∷ x.0, x.1) ∷ [], (c ∷ y.0, y.1) ∷ []) ∷ there (placed c g) | Greater ↦ ([], (c ∷ y.0, y.1) ∷ []) ∷ with_old by_path (c ∷ x.0, x.1) there (placed c g) ])
          ≡ under c (map standing (elim o [ Less ↦ (x ∷ [], []) ∷ others (y ∷ g) | Equal ↦ (x ∷ [], y ∷ []) ∷ others g | Greater ↦ ([], y ∷ []) ∷ with_old by_path x others g ]))
      by after Less = ap (λ s. (c ∷ x.0, (Some x.1, None)) ∷ s) (rest (y ∷ g) h)
      by after Equal = ap (λ s. (c ∷ x.0, (Some x.1, Some y.1)) ∷ s) (rest g left)
      by after Greater = ap (λ s. (c ∷ y.0, (None, Some y.1)) ∷ s) after

standing_placed : (c : Bytes) (f g : FileMap Bytes) → AreInner f → AreInner g → all_standing (placed c f) (placed c g) ≡ under c (all_standing f g)
standing_placed c [] g h j = new_placed c g
standing_placed c (x ∷ f) g h j =
    old_placed c x (and_parts (is_inner_path x.0) (list_all (λ e. is_inner_path e.0) f) h).0 (side_by_side by_path (placed c f)) (side_by_side by_path f)
    (λ ds k. standing_placed c f ds (and_parts (is_inner_path x.0) (list_all (λ e. is_inner_path e.0) f) h).1 k) g j

differs_under : (c : Bytes) (ss : List Standing) → filter differs (under c ss) ≡ under c (filter differs ss)
differs_under c [] = refl
differs_under c (s ∷ ss) =
    elim (differs s) as (λ b. cond b ((c ∷ s.0, s.1) ∷ filter differs (under c ss)) (filter differs (under c ss)) ≡ under c (cond b (s ∷ filter differs ss) (filter differs ss))) [
      | true ↦ ap (λ t. (c ∷ s.0, s.1) ∷ t) (differs_under c ss)
      | false ↦ differs_under c ss
    ]

differing_placed : (c : Bytes) (f g : FileMap Bytes) → AreInner f → AreInner g → differing (placed c f) (placed c g) ≡ under c (differing f g)
differing_placed c f g h j = ap (filter differs) (standing_placed c f g h j) ∙ differs_under c (all_standing f g)

below_under : (front : Path) (c : Bytes) (ss : List Standing) → standing_below (front ++ c ∷ []) ss ≡ standing_below front (under c ss)
below_under front c [] = refl
below_under front c (s ∷ ss) = let one = append_assoc front (c ∷ []) s.0 in let rest = below_under front c ss in λ i. (one i, s.1) ∷ rest i

-- what differs below a component of two directories
folders_below : (front : Path) (c : Bytes) (f g os ns : FileMap Bytes) → AreInner f → AreInner g → os ≡ placed c f → ns ≡ placed c g → standing_below (front ++ c ∷ []) (differing f g) ≡ standing_below front (differing os ns)
folders_below front c f g os ns h j o n =
    below_under front c (differing f g) ∙ ap (standing_below front) (sym (differing_placed c f g h j) ∙ (λ i. differing (sym o i) (sym n i)))

-- ---- a map and itself

mode_same : (m : Mode) → same_mode m m ≡ true
mode_same File = refl
mode_same Exec = refl
mode_same Link = refl
mode_same Gitlink = refl
mode_same Dir = refl

leaf_same : (x : Leaf Bytes) → is_this_leaf (Some x) x ≡ true
leaf_same x = and_from _ _ (mode_same x.0) (same_itself x.1)

none_differs : (f : FileMap Bytes) → differing f f ≡ []
none_differs [] = refl
none_differs (x ∷ f) =
    ap (λ o. filter differs (map standing (elim o [ Less ↦ (x ∷ [], []) ∷ side_by_side by_path f (x ∷ f) | Equal ↦ (x ∷ [], x ∷ []) ∷ side_by_side by_path f f | Greater ↦ ([], x ∷ []) ∷ with_old by_path x (side_by_side by_path f) f ])))
    (tied_itself path_order x.0)
    ∙ ap (λ b. cond (not b) ((x.0, (Some x.1, Some x.1)) ∷ differing f f) (differing f f)) (leaf_same x.1) ∙ none_differs f

-- ---- two files at one component

one_path : (c : Bytes) (x y : Leaf Bytes) → all_standing ((c ∷ [], x) ∷ []) ((c ∷ [], y) ∷ []) ≡ (c ∷ [], (Some x, Some y)) ∷ []
one_path c x y =
    ap (λ o. map standing (elim o [ Less ↦ ((c ∷ [], x) ∷ [], []) ∷ ([], (c ∷ [], y) ∷ []) ∷ [] | Equal ↦ ((c ∷ [], x) ∷ [], (c ∷ [], y) ∷ []) ∷ [] | Greater ↦ ([], (c ∷ [], y) ∷ []) ∷ ((c ∷ [], x) ∷ [], []) ∷ [] ]))
    (tied_itself path_order (c ∷ []))

two_files : (c d : Bytes) (x y : Leaf Bytes) → c ≡ d → differing ((c ∷ [], x) ∷ []) ((d ∷ [], y) ∷ []) ≡ cond (not (is_this_leaf (Some x) y)) ((c ∷ [], (Some x, Some y)) ∷ []) []
two_files c d x y e = subst (λ (b : Bytes). differing ((c ∷ [], x) ∷ []) ((b ∷ [], y) ∷ []) ≡ cond (not (is_this_leaf (Some x) y)) ((c ∷ [], (Some x, Some y)) ∷ []) []) e (ap (filter differs) (one_path c x y))

-- ---- a key tells the component and the kind

-- both are files, or both are directories
abbrev IsAlike : Kept → Kept → Type 0
IsAlike (file x) (file y) = ⊤
IsAlike (folder f) (folder g) = ⊤
IsAlike _ _ = ⊥

and_none : (b : Bool) → (b && false) ≡ false
and_none true = refl
and_none false = refl

slash_last : (d : Bytes) → list_all (λ b. not (nat_eq b 47)) (d ++ 47 ∷ []) ≡ false
slash_last [] = refl
slash_last (x ∷ d) = ap (λ b. not (nat_eq x 47) && b) (slash_last d) ∙ and_none (not (nat_eq x 47))

no_slash : (c d : Bytes) → is_component c ≡ true → c ≡ d ++ 47 ∷ [] → ⊥
no_slash c d h e =
    let free = is_true _ (component_free c (passes _ h)).0 in
    false≢true (sym (slash_last d) ∙ ap (list_all (λ b. not (nat_eq b 47))) (sym e) ∙ free)

keys_tell : (c d : Bytes) (k l : Kept) → is_component c ≡ true → is_component d ≡ true → key c k ≡ key d l → (c ≡ d) × IsAlike k l
keys_tell c d (file x) (file y) h j e = (sym (append-nil c) ∙ e ∙ append-nil d, tt)
keys_tell c d (folder f) (folder g) h j e = (append_cancel_right c d (47 ∷ []) e, tt)
keys_tell c d (file x) (folder g) h j e = absurd (no_slash c d h (sym (append-nil c) ∙ e))
keys_tell c d (folder f) (file y) h j e = absurd (no_slash d c j (sym (append-nil d) ∙ sym e))

one_directory : (c : Bytes) (f : FileMap Bytes) → files ((c, folder f) ∷ []) ≡ placed c f
one_directory c f = append-nil (placed c f)

module _ (name : Kind → Bytes → Bytes) (namer : IsNamer name) (r : Records) (room : ℕ) (front : Path) where
  abbrev Below : Bytes × Kept → Type 0
  Below e = IsEntryBelow name r room front e

  below_inner : (c : Bytes) (f : FileMap Bytes) → Below (c, folder f) → AreInner f
  below_inner c f h = file_inner f (is_true _ (parts_of f h.entry.1.0.map.file_map).paths)

  -- ---- pairs that are the same

  same_kept : (c d : Bytes) (k l : Kept) → Below (c, k) → Below (d, l) → (c ≡ d) → IsAlike k l → names_same (kept_entry name (c, k)) (kept_entry name (d, l)) ≡ true
      → differing (files ((c, k) ∷ [])) (files ((d, l) ∷ [])) ≡ []
  same_kept c d (file x) (file y) h j e a n = two_files c d x y e ∙ ap (λ b. cond (not b) ((c ∷ [], (Some x, Some y)) ∷ []) []) n
  same_kept c d (folder f) (folder g) h j e a n =
      let names : map_name name f ≡ map_name name g = bytes_are (map_name name f) (map_name name g) (and_parts (same_mode Dir Dir) (same_bytes (map_name name f) (map_name name g)) n).1 in
      let same : f ≡ g = one_map name r.records namer (map_name name f) f g h.entry.1.0 (subst (λ m. IsHeldTree name r.records m g) (sym names) j.entry.1.0) in
      (λ i. differing (files ((c, folder f) ∷ [])) (files ((sym e i, folder (sym same i)) ∷ []))) ∙ none_differs (files ((c, folder f) ∷ []))
  same_kept c d (file x) (folder g) h j e a n = absurd a
  same_kept c d (folder f) (file y) h j e a n = absurd a

  same_levels : (os ns : Level) → IsPair (os, ns) → AllByRecursion Below os → AllByRecursion Below ns → is_same (map (kept_entry name) os, map (kept_entry name) ns) ≡ true → differing (files os) (files ns) ≡ []
  same_levels (e ∷ []) (d ∷ []) s h j n =
      let tell = keys_tell e.0 d.0 e.1 d.1 h.0.component j.0.component s in
      same_kept e.0 d.0 e.1 d.1 h.0 j.0 tell.0 tell.1 n
  same_levels [] ns s h j n = absurd (cc n)
  same_levels (e ∷ []) [] s h j n = absurd (cc n)
  same_levels (e ∷ []) (d ∷ b ∷ ns) s h j n = absurd s
  same_levels (e ∷ b ∷ os) ns s h j n = absurd (no_two e b os ns s)
    where
      no_two : (e b : Bytes × Kept) (os ns : Level) → IsPair (e ∷ b ∷ os, ns) → ⊥
      no_two e b os [] s = s
      no_two e b os (d ∷ []) s = s
      no_two e b os (d ∷ a ∷ ns) s = s

  -- a pair that is the same differs in nothing
  pub same_listed : (item : List TreeEntry × List TreeEntry) (p : Level × Level) → item ≡ both_entries name p → IsPair p → AllByRecursion Below p.0 → AllByRecursion Below p.1 → is_same item ≡ true → differing (files p.0) (files p.1) ≡ []
  same_listed item p told s h j n = same_levels p.0 p.1 s h j (ap is_same (sym told) ∙ n)

  -- ---- pairs that differ

  -- directories that differ, with those below them
  pub record AreFolders (c : Bytes) (o n : Option Entry) (os ns : FileMap Bytes) (f g : FileMap Bytes) : Type 0 where
    pub olds : IsBelowIf name r (room - length c - 1) (front ++ c ∷ []) (name_if o) f
    pub news : IsBelowIf name r (room - length c - 1) (front ++ c ∷ []) (name_if n) g
    pub listed : standing_below (front ++ c ∷ []) (differing f g) ≡ standing_below front (differing os ns)

  -- a file that is new, gone or another, or directories
  pub record IsListedPair (e : Entry) (o n : Option Entry) (os ns : Level) : Type 0 where
    pub file : (e.mode ≢ Dir) → (path : Path) → path ≡ front ++ e.component.now ∷ [] → is_same (shown_if o, shown_if n) ≡ false → (path, (entry_leaf o, entry_leaf n)) ∷ [] ≡ standing_below front (differing (files os) (files ns))
    pub folder : e.mode ≡ Dir → (f : FileMap Bytes) × (g : FileMap Bytes) × AreFolders e.component.now o n (files os) (files ns) f g

  module _ (e : Entry) (k : Kept) where
    -- what stands at an entry's component
    abbrev IsHere : Type 0
    IsHere = Below (e.component.now, k) × (kept_leaf name k ≡ (e.mode, e.name.bytes))

  told_here : (e : Entry) (x : Bytes × Kept) → shown e ∷ [] ≡ kept_entry name x ∷ [] → Below x → ((e.component.now, x.1) ≡ x) × IsHere e x.1
  told_here e x t h =
      let one : shown e ≡ kept_entry name x = cc t in
      let component : e.component.now ≡ x.0 = ap (λ z. z.component) one in
      let same : (e.component.now, x.1) ≡ x = (λ i. (component i, x.1)) in
      (same, (subst Below (sym same) h, λ i. ((sym one i).mode, (sym one i).name)))

  tree_below : (e : Entry) (f : FileMap Bytes) → IsHere e (folder f) → IsTreeBelow name r (room - length e.component.now - 1) (front ++ e.component.now ∷ []) e.name.bytes f
  tree_below e f h = record {
    within = subst (λ m. IsHeldWithin name r.records (room - length e.component.now - 1) m f) (ap (λ x. x.1) h.1) h.0.entry.1;
    paths = h.0.paths;
    held = h.0.held;
  }

  old_alone : (e : Entry) (k : Kept) → IsHere e k → IsListedPair e (Some e) None ((e.component.now, k) ∷ []) []
  old_alone e (file z) h = record {
    file = λ d path at n. (λ i. (at i, (Some (sym h.1 i), None)) ∷ []);
    folder = λ d. absurd (h.0.entry (ap (λ x. x.0) h.1 ∙ d));
  }
  old_alone e (folder f) h = record {
    file = λ d path at n. absurd (d (ap (λ x. x.0) (sym h.1)));
    folder = λ d. (
      f,
      [],
      record {
        olds = tree_below e f h;
        news = refl;
        listed = folders_below front e.component.now f [] (files ((e.component.now, folder f) ∷ [])) [] (below_inner e.component.now f h.0) refl (one_directory e.component.now f) refl;
      },
    );
  }

  new_alone : (e : Entry) (k : Kept) → IsHere e k → IsListedPair e None (Some e) [] ((e.component.now, k) ∷ [])
  new_alone e (file z) h = record {
    file = λ d path at n. (λ i. (at i, (None, Some (sym h.1 i))) ∷ []);
    folder = λ d. absurd (h.0.entry (ap (λ x. x.0) h.1 ∙ d));
  }
  new_alone e (folder f) h = record {
    file = λ d path at n. absurd (d (ap (λ x. x.0) (sym h.1)));
    folder = λ d. (
      [],
      f,
      record {
        olds = refl;
        news = tree_below e f h;
        listed = folders_below front e.component.now [] f [] (files ((e.component.now, folder f) ∷ [])) refl (below_inner e.component.now f h.0) refl (one_directory e.component.now f);
      },
    );
  }

  both_there : (e d : Entry) (k l : Kept) → IsHere e k → IsHere d l → e.component.now ≡ d.component.now → IsAlike k l → IsListedPair e (Some e) (Some d) ((e.component.now, k) ∷ []) ((d.component.now, l) ∷ [])
  both_there e d (file x) (file y) h j s a = record {
    file = λ m path at n.
        let c = e.component.now in
        let other : is_this_leaf (Some x) y ≡ false = (λ i. is_this_leaf (Some (h.1 i)) (j.1 i)) ∙ n in
        (λ i. (at i, (Some (sym h.1 i), Some (sym j.1 i))) ∷ [])
        ∙ ap (standing_below front) (sym (two_files c d.component.now x y s ∙ ap (λ b. cond (not b) ((c ∷ [], (Some x, Some y)) ∷ []) []) other));
    folder = λ m. absurd (h.0.entry (ap (λ z. z.0) h.1 ∙ m));
  }
  both_there e d (folder f) (folder g) h j s a = record {
    file = λ m path at n. absurd (m (ap (λ z. z.0) (sym h.1)));
    folder = λ m.
        let old = one_directory e.component.now f in
        let new = one_directory d.component.now g ∙ ap (λ (b : Bytes). placed b g) (sym s) in (
          f,
          g,
          record {
            olds = tree_below e f h;
            news = subst (λ (b : Bytes). IsTreeBelow name r (room - length b - 1) (front ++ b ∷ []) d.name.bytes g) (sym s) (tree_below d g j);
            listed = folders_below front e.component.now f g (files ((e.component.now, folder f) ∷ [])) (files ((d.component.now, folder g) ∷ [])) (below_inner e.component.now f h.0) (below_inner d.component.now g j.0) old new;
          },
        );
  }
  both_there e d (file x) (folder g) h j s a = absurd a
  both_there e d (folder f) (file y) h j s a = absurd a

  -- a pair, by the entry that is chosen
  pair_levels : (o n : Option Entry) (os ns : Level) → shown_if o ≡ map (kept_entry name) os → shown_if n ≡ map (kept_entry name) ns → IsPair (os, ns) → AllByRecursion Below os → AllByRecursion Below ns → (e : Entry) → Some e ≡ or_other o n → IsListedPair e o n os ns
  pair_levels (Some a) None (x ∷ []) [] t u s h j e q =
      let same : a ≡ e = cc q in
      let here = told_here a x t h.0 in
      subst (λ (b : Entry). IsListedPair b (Some a) None (x ∷ []) []) same (subst (λ (y : Bytes × Kept). IsListedPair a (Some a) None (y ∷ []) []) here.0 (old_alone a x.1 here.1))
  pair_levels None (Some a) [] (x ∷ []) t u s h j e q =
      let same : a ≡ e = cc q in
      let here = told_here a x u j.0 in
      subst (λ (b : Entry). IsListedPair b None (Some a) [] (x ∷ [])) same (subst (λ (y : Bytes × Kept). IsListedPair a None (Some a) [] (y ∷ [])) here.0 (new_alone a x.1 here.1))
  pair_levels (Some a) (Some b) (x ∷ []) (y ∷ []) t u s h j e q =
      let same : a ≡ e = cc q in
      let old = told_here a x t h.0 in
      let new = told_here b y u j.0 in
      let tell = keys_tell x.0 y.0 x.1 y.1 h.0.component j.0.component s in
      let component = ap (λ (z : Bytes × Kept). z.0) old.0 ∙ tell.0 ∙ ap (λ (z : Bytes × Kept). z.0) (sym new.0) in
      subst (λ (c : Entry). IsListedPair c (Some a) (Some b) (x ∷ []) (y ∷ [])) same
      (subst (λ (z : Bytes × Kept). IsListedPair a (Some a) (Some b) (z ∷ []) (y ∷ [])) old.0
      (subst (λ (z : Bytes × Kept). IsListedPair a (Some a) (Some b) ((a.component.now, x.1) ∷ []) (z ∷ [])) new.0 (both_there a b x.1 y.1 old.1 new.1 component tell.1)))
  pair_levels o None os (x ∷ ns) t u s h j e q = absurd (cc u)
  pair_levels None n (x ∷ os) ns t u s h j e q = absurd (cc t)
  pair_levels (Some a) n [] ns t u s h j e q = absurd (cc t)
  pair_levels o (Some b) os [] t u s h j e q = absurd (cc u)
  pair_levels (Some a) n (x ∷ y ∷ os) ns t u s h j e q = absurd (cc t)
  pair_levels o (Some b) os (x ∷ y ∷ ns) t u s h j e q = absurd (cc u)
  pair_levels None None [] [] t u s h j e q = absurd s

  pub listed_pair : (pair : Pair) (p : Level × Level) → IsPairBelow name r room front pair p → (e : Entry) → Some e ≡ or_other pair.old pair.new → IsListedPair e pair.old pair.new p.0 p.1
  listed_pair pair p h e q = pair_levels pair.old pair.new p.0 p.1 (ap (λ z. z.0) h.told) (ap (λ z. z.1) h.told) h.shape h.olds h.news e q
