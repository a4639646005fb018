-- Loading a held tree, entry by entry.
use Rattle.std.proofs.Common.{◌≡◌, ◌≢◌, ℕ, ◌+◌, ◌-◌, ◌<◌, true, List, [], ◌∷◌, ◌++◌, map, length, Option, Some, None, inl, inr, refl, sym, ap, ◌∙◌, subst, arith, append_assoc, append-nil}
use Rattle.std.specs.Prelude.{nat_le}
use Rattle.std.specs.List.{flat_map, list_all, AllByRecursion}
use Rattle.std.specs.Borrow.{Bor}
use Rattle.std.specs.Option.{option_map}
use Rattle.std.proofs.lemmas.Bool.{and_from, and_parts, false≢true, leb-true, le-leb}
use Rattle.gx_model.specs.declared.objects.Kind.{Kind}
use Rattle.gx_model.specs.declared.objects.Kind.TheVariants as kind
use Rattle.gx_model.specs.Texts.{Bytes}
use Rattle.gx_model.specs.Texts.Paths.{Path, begins, is_component, path_text, same_path}
use Rattle.gx_model.specs.Histories.Files.{FileMap, Leaf, file_at, first_components, sub_map, under}
use Rattle.gx_model.specs.Objects.{Entry as TreeEntry, IsNamer, IsTreeText, is_name, tree_text}
use Rattle.gx_model.specs.Records.{entries, tree_body}
use Rattle.gx_model.specs.Histories.{Record, object_of}
use Rattle.gx_model.specs.Records.Growth.{record_named, tree_record, tree_records}
use Rattle.gx_model.proofs.Histories.FileMapEdits.{of_parts, parts_of}
use Rattle.gx_model.proofs.ObjectTexts.OneTree.{all_left, all_right}
use Rattle.gx_model.proofs.Histories.SubMaps.{sub_parts}
use Rattle.gx_model.proofs.ObjectTexts.TreePaths.{name_is_name}
use Rattle.gx_store.specs.Stores.{shown_object}
use Rattle.gx_tree.specs.Rooms.{is_within}
use Rattle.gx_tree.specs.HeldTrees.{IsHeldEntry, IsHeldWithin}
use Rattle.gx_model.specs.Objects.NameMaps.{IsHeldTree, IsNameMap}
use Rattle.gx_tree.specs.Nodes.{Kept, Level, IsKept, IsLevel, is_inner_path}
use Rattle.gx_tree.specs.Writes.{kept_leaf, kept_records}
use Rattle.gx_tree.proofs.Texts.{bytes_same, cases_bytes, holds}
use Rattle.gx_tree.proofs.Lookups.{AreInner}
use Rattle.gx_tree.proofs.Levels.{IsInner-files}
use Rattle.gx_tree.proofs.NamedFiles.{IsLeaf, each-filter, each-off, leaves, name_map_of}
use Rattle.gx_tree.proofs.Rooms.{child_length}
use Rattle.gx_tree.proofs.TreeRecords.{canonical, entries-files, kept_entry, tree_records-files}
use Rattle.gx_tree.proofs.Listed.{all_short}
use Rattle.gx_tree.proofs.LevelsOf.{IsLevel-level_of, at_each, file_inner, files-level_of, kept_by, kept_in, level_of, level_on}

-- ---- how long the paths below a component are

abbrev pub AreWithin : ℕ → FileMap Bytes → Type 0
AreWithin room f = list_all (is_within room) f ≡ true

within_child : (c d e : Bytes) (p : Path) (room : ℕ) → c ≡ d → is_inner_path (d ∷ e ∷ p) ≡ true → nat_le (length (path_text (d ∷ e ∷ p))) room ≡ true → (length c < room) × (nat_le (length (path_text (e ∷ p))) (room - length c - 1) ≡ true)
within_child c d e p room s k l =
    let inner : is_inner_path (e ∷ p) ≡ true = (and_parts (is_component d) _ k).1 in
    let long : length (path_text (d ∷ e ∷ p)) ≡ length d + 1 + length (path_text (e ∷ p)) = child_length d (e ∷ p) inner in
    let most = leb-true _ _ l in
    let same = ap length s in
    (omega arith, le-leb _ _ (omega arith))

sub_more : (c : Bytes) (p : Path) (x : Leaf Bytes) (f : FileMap Bytes) (room : ℕ) → is_inner_path p ≡ true → nat_le (length (path_text p)) room ≡ true → (file_at f (c ∷ []) ≡ None → AreWithin (room - length c - 1) (sub_map f (c ∷ []))) → file_at ((p, x) ∷ f) (c ∷ []) ≡ None → AreWithin (room - length c - 1) (sub_map ((p, x) ∷ f) (c ∷ []))
sub_more c [] x f room k l ih n = absurd (false≢true k)
sub_more c (d ∷ []) x f room k l ih n = elim (cases_bytes c d) [
  | inl s ↦ let clash : Some x ≡ None = rw (bytes_same c d s) at n in cc
  | inr s ↦ rw s (ih (rw s at n))
]
sub_more c (d ∷ e ∷ p) x f room k l ih n = elim (cases_bytes c d) [
  | inl s ↦ rw (bytes_same c d s) (and_from _ _ (within_child c d e p room s k l).1 (ih (rw (bytes_same c d s) at n)))
  | inr s ↦ rw s (ih (rw s at n))
]

sub_within : (c : Bytes) (f : FileMap Bytes) (room : ℕ) → AreInner f → AreWithin room f → file_at f (c ∷ []) ≡ None → AreWithin (room - length c - 1) (sub_map f (c ∷ []))
sub_within c [] room h w n = refl
sub_within c (e ∷ f) room h w n = sub_more c e.0 e.1 f room (and_parts _ _ h).0 (and_parts _ _ w).0 (sub_within c f room (and_parts _ _ h).1 (and_parts _ _ w).1) n

room_more : (c : Bytes) (p : Path) (x : Leaf Bytes) (f : FileMap Bytes) (room : ℕ) → is_inner_path p ≡ true → nat_le (length (path_text p)) room ≡ true → (file_at f (c ∷ []) ≡ None → (sub_map f (c ∷ []) ≢ []) → length c < room) → file_at ((p, x) ∷ f) (c ∷ []) ≡ None → (sub_map ((p, x) ∷ f) (c ∷ []) ≢ []) → length c < room
room_more c [] x f room k l ih n s = absurd (false≢true k)
room_more c (d ∷ []) x f room k l ih n m = elim (cases_bytes c d) [
  | inl s ↦ let clash : Some x ≡ None = rw (bytes_same c d s) at n in cc
  | inr s ↦ ih (rw s at n) (rw s at m)
]
room_more c (d ∷ e ∷ p) x f room k l ih n m = elim (cases_bytes c d) [
  | inl s ↦ (within_child c d e p room s k l).0
  | inr s ↦ ih (rw s at n) (rw s at m)
]

room_for : (c : Bytes) (f : FileMap Bytes) (room : ℕ) → AreInner f → AreWithin room f → file_at f (c ∷ []) ≡ None → (sub_map f (c ∷ []) ≢ []) → length c < room
room_for c [] room h w n s = absurd (s refl)
room_for c (e ∷ f) room h w n s = room_more c e.0 e.1 f room (and_parts _ _ h).0 (and_parts _ _ w).0 (room_for c f room (and_parts _ _ h).1 (and_parts _ _ w).1) n s

sub_names : (c : Bytes) (g : FileMap Bytes) → IsNameMap g → file_at g (c ∷ []) ≡ None → IsNameMap (sub_map g (c ∷ []))
sub_names c g h n =
    name_map_of (sub_map g (c ∷ [])) (of_parts (sub_map g (c ∷ [])) (sub_parts c g (parts_of g h.file_map) n))
    (each-off IsLeaf 1 (under (c ∷ []) g) (each-filter (λ e. IsLeaf e.1) (λ e. begins (c ∷ []) e.0) g (leaves g h)))

pub within_all : (g : FileMap Bytes) → IsNameMap g → AreWithin 4095 g
within_all g h = all_short g (holds _ (parts_of g h.file_map).paths)

-- ---- the entries of a held tree

module _ (name : Kind → Bytes → Bytes) (rs : List Record) where
  abbrev AreHeld : List Record → Type 0
  AreHeld ns = AllByRecursion (λ r. record_named rs r.name ≡ Some r) ns

  records_of : (g : FileMap Bytes) → IsNameMap g → tree_records name g ≡ flat_map (λ e. kept_records name e.1) (level_of g) ++ tree_record name g ∷ []
  records_of g h =
      let l = IsLevel-level_of g h in
      subst (λ z. tree_records name z ≡ flat_map (λ e. kept_records name e.1) (level_of g) ++ tree_record name z ∷ []) (files-level_of g (parts_of g h.file_map)) (tree_records-files name (level_of g) l (IsInner-files (level_of g) l).paths)

  pub own_record : (n : Bytes) (g : FileMap Bytes) → IsHeldTree name rs n g → record_named rs n ≡ Some (tree_record name g)
  own_record n g h =
      ap (record_named rs) h.named
      ∙ (all_right (λ r. record_named rs r.name ≡ Some r) (flat_map (λ e. kept_records name e.1) (level_of g)) (tree_record name g ∷ []) (subst AreHeld (records_of g h.map) h.held)).0

  pub is_there : (n : Bytes) (g : FileMap Bytes) (r : Option (Kind × Bor Bytes)) → IsHeldTree name rs n g → r ≡ None → option_map shown_object r ≡ option_map object_of (record_named rs n) → ⊥
  is_there n g r h e s = let clash : None ≡ Some (object_of (tree_record name g)) = ap (option_map shown_object) (sym e) ∙ s ∙ ap (option_map object_of) (own_record n g h) in cc

  body_of : (n : Bytes) (g : FileMap Bytes) (r : Option (Kind × Bor Bytes)) (k : Kind) (b : Bor Bytes) → IsHeldTree name rs n g → r ≡ Some (k, b) → option_map shown_object r ≡ option_map object_of (record_named rs n) → b.now ≡ tree_body name g
  body_of n g r k b h e s = let f : Some (k, b.now) ≡ Some (object_of (tree_record name g)) = ap (option_map shown_object) (sym e) ∙ s ∙ ap (option_map object_of) (own_record n g h) in let same : (k, b.now) ≡ object_of (tree_record name g) = cc in ap (λ z. z.1) same

  each_entry : (g : FileMap Bytes) (room : ℕ) (cs : List Bytes) → IsNameMap g → AreWithin room g → AllByRecursion (λ e. IsKept e.1) (level_on g cs) → AreHeld (flat_map (λ e. kept_records name e.1) (level_on g cs)) → AllByRecursion (IsHeldEntry name rs room) (level_on g cs)
  each_entry g room [] h w k a = tt
  each_entry g room (c ∷ cs) h w k a = (
    by (file_at g (c ∷ [])) refl k.0 (all_left (λ r. record_named rs r.name ≡ Some r) (kept_records name (kept_in g c)) (flat_map (λ e. kept_records name e.1) (level_on g cs)) a),
    each_entry g room cs h w k.1 (all_right (λ r. record_named rs r.name ≡ Some r) (kept_records name (kept_in g c)) (flat_map (λ e. kept_records name e.1) (level_on g cs)) a),
  )
    where
      by : (o : Option (Leaf Bytes)) → file_at g (c ∷ []) ≡ o → IsKept (kept_by o (sub_map g (c ∷ []))) → AreHeld (kept_records name (kept_by o (sub_map g (c ∷ [])))) → IsHeldEntry name rs room (c, kept_by o (sub_map g (c ∷ [])))
      by (Some x) e j b = j
      by None e j b =
          let i = file_inner g (holds _ (parts_of g h.file_map).paths) in
          (room_for c g room i w e j.0, (record { map = sub_names c g h e; named = refl; held = b }, sub_within c g room i w e))

  each_kept : (es : Level) → IsLevel es → AllByRecursion (λ e. IsKept e.1) es
  each_kept [] h = tt
  each_kept (e ∷ es) h = (h.1, each_kept es h.3)

  pub entries_held : (n : Bytes) (g : FileMap Bytes) (room : ℕ) → IsHeldWithin name rs room n g → AllByRecursion (IsHeldEntry name rs room) (level_of g)
  entries_held n g room h =
      each_entry g room (first_components g) h.0.map h.1 (each_kept (level_of g) (IsLevel-level_of g h.0.map))
      (all_left (λ r. record_named rs r.name ≡ Some r) (flat_map (λ e. kept_records name e.1) (level_of g)) (tree_record name g ∷ []) (subst AreHeld (records_of g h.0.map) h.0.held))

  -- ---- its body

  names_on : IsNamer name → (g : FileMap Bytes) (cs : List Bytes) → IsNameMap g → list_all (λ e. is_name e.name) (map (kept_entry name) (level_on g cs)) ≡ true
  names_on namer g [] h = refl
  names_on namer g (c ∷ cs) h = and_from _ _ (by (file_at g (c ∷ [])) refl) (names_on namer g cs h)
    where
      by : (o : Option (Leaf Bytes)) → file_at g (c ∷ []) ≡ o → is_name (kept_leaf name (kept_by o (sub_map g (c ∷ [])))).1 ≡ true
      by (Some x) e = (at_each (λ y. IsLeaf y.1) (same_path (c ∷ [])) g (leaves g h) x e).1.1
      by None e = holds _ (name_is_name name namer kind.Tree (tree_body name (sub_map g (c ∷ []))))

  pub body_is : IsNamer name → (g : FileMap Bytes) → IsNameMap g → IsTreeText (map (kept_entry name) (level_of g)) (tree_body name g)
  body_is namer g h =
      let l = IsLevel-level_of g h in
      let e : entries name g ≡ map (kept_entry name) (level_of g) = subst (λ z. entries name z ≡ map (kept_entry name) (level_of g)) (files-level_of g (parts_of g h.file_map)) (entries-files name (level_of g) l) in
      (ap tree_text e, canonical name (level_of g) l, names_on namer g (first_components g) h)

  pub held_text : IsNamer name → (n : Bytes) (g : FileMap Bytes) (r : Option (Kind × Bor Bytes)) (k : Kind) (b : Bor Bytes) → IsHeldTree name rs n g → r ≡ Some (k, b) → option_map shown_object r ≡ option_map object_of (record_named rs n) → IsTreeText (map (kept_entry name) (level_of g)) b.now
  held_text namer n g r k b h e s = subst (IsTreeText (map (kept_entry name) (level_of g))) (sym (body_of n g r k b h e s)) (body_is namer g h.map)

-- ---- a step of the loop over the entries

-- out is made, and left is to come
pub record IsLoading (name : Kind → Bytes → Bytes) (all : Level) (left : List TreeEntry) (out : Level) : Type 0 where
  pub rest : Level
  pub split : all ≡ out ++ rest
  pub to_come : left ≡ map (kept_entry name) rest

pub loading_none : (name : Kind → Bytes → Bytes) (all : Level) (held left : List TreeEntry) → left ≡ held → held ≡ map (kept_entry name) all → IsLoading name all left []
loading_none name all held left l e = record { rest = all; split = refl; to_come = l ∙ e }

-- the entry at hand, and what follows once it is made
pub record IsNext (name : Kind → Bytes → Bytes) (P : Bytes × Kept → Type 0) (all : Level) (e : TreeEntry) (left : List TreeEntry) (out : Level) : Type 0 where
  pub kept : Kept
  pub fits : P (e.component, kept)
  pub leaf : kept_leaf name kept ≡ (e.mode, e.name)
  pub more : (y : Bytes × Kept) → y ≡ (e.component, kept) → IsLoading name all left (out ++ y ∷ [])

pub loading_more : (name : Kind → Bytes → Bytes) (P : Bytes × Kept → Type 0) (all : Level) (e : TreeEntry) (before left : List TreeEntry) (out : Level) → AllByRecursion P all → before ≡ e ∷ left → IsLoading name all before out → IsNext name P all e left out
loading_more name P all e before left out p b h = by h.rest (sym b ∙ h.to_come) h.split
  where
    by : (rest : Level) → e ∷ left ≡ map (kept_entry name) rest → all ≡ out ++ rest → IsNext name P all e left out
    by [] c s = cc
    by (x ∷ rest) c s =
        let head : e ≡ kept_entry name x = cc in
        let tail : left ≡ map (kept_entry name) rest = cc in
        let component : e.component ≡ x.0 = ap (λ z. z.component) head in
        let here : P x = (all_right P out (x ∷ rest) (subst (AllByRecursion P) s p)).0 in
        record {
          kept = x.1;
          fits = subst (λ z. P (z, x.1)) (sym component) here;
          leaf = λ i. ((sym head i).mode, (sym head i).name);
          more = λ y q. record { rest = rest; split = s ∙ ap (λ z. out ++ z ∷ rest) (λ i. (sym component i, x.1)) ∙ ap (λ z. out ++ z ∷ rest) (sym q) ∙ sym (append_assoc out (y ∷ []) rest); to_come = tail };
        }

pub loading_all : (name : Kind → Bytes → Bytes) (all : Level) (left : List TreeEntry) (out : Level) → left ≡ [] → IsLoading name all left out → out ≡ all
loading_all name all left out e h = by h.rest (sym e ∙ h.to_come) h.split
  where
    by : (rest : Level) → [] ≡ map (kept_entry name) rest → all ≡ out ++ rest → out ≡ all
    by [] c s = sym (s ∙ append-nil out)
    by (x ∷ rest) c s = cc
