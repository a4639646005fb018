-- Remembered names by a directory's entries, and where they are held.
use Rattle.std.proofs.Common.{Vec, ◌≡◌, ℕ, ◌<◌, zero, suc, List, [], ◌∷◌, ◌++◌, map, length, get_or, take, drop, Option, Some, None, refl, sym, ap, ◌∙◌, subst, arith}
use Rattle.std.specs.List.{AllByRecursion}
use Rattle.gx_model.specs.declared.objects.Kind.{Kind}
use Rattle.gx_model.specs.Texts.{Bytes}
use Rattle.gx_model.specs.Texts.Paths.{Path}
use Rattle.gx_model.specs.Histories.Files.{FileMap, sub_map}
use Rattle.gx_model.specs.Histories.{Record}
use Rattle.gx_object.specs.declared.name.Name.{Name}
use Rattle.gx_tree.specs.Components.{bytes_of}
use Rattle.gx_tree.specs.Homes.{AreAtHome, IsItemAtHome}
use Rattle.gx_tree.specs.Named.{NamedTree, IsAtHome, IsHome}
use Rattle.gx_tree.specs.Nodes.{Level, IsAfter, IsLevel, files, kept_at, map_if}
use Rattle.gx_tree.specs.Views.{item_names, shown_item, names_below, names_of, shown_entry, shown_entries}
use Rattle.gx_tree.specs.declared.directory.Item.{Item}
use Rattle.gx_tree.specs.declared.directory.Item.TheVariants.{File, Folder}
use Rattle.gx_tree.specs.declared.directory.Entry.{Entry}
use Rattle.gx_tree.proofs.Below.{sub_map-files, sub_map-whole}
use Rattle.gx_tree.proofs.Texts.{same_bytes_flip, same_itself}

pub files_same : {s t : NamedTree} → s ≡ t → s.files ≡ t.files
files_same e = ap (λ (t : NamedTree). t.files) e

-- the elements of a vector that is another
pub items_are_those : {X A : Type 0} {v w : Vec X A} {xs : List X} → xs ≡ v.items → v ≡ w → xs ≡ w.items
items_are_those e v = e ∙ ap (λ z. z.items) v

module _ {X : Type 0} (P : X → Type 0) where
  pub all_joined : (xs ys : List X) → AllByRecursion P xs → AllByRecursion P ys → AllByRecursion P (xs ++ ys)
  all_joined [] ys h k = k
  all_joined (x ∷ xs) ys h k = (h.0, all_joined xs ys h.1 k)

  pub all_first : (xs ys : List X) → AllByRecursion P (xs ++ ys) → AllByRecursion P xs
  all_first [] ys h = tt
  all_first (x ∷ xs) ys h = (h.0, all_first xs ys h.1)

  pub all_rest : (xs ys : List X) → AllByRecursion P (xs ++ ys) → AllByRecursion P ys
  all_rest [] ys h = h
  all_rest (x ∷ xs) ys h = all_rest xs ys h.1

  pub all_inserted : (xs : List X) (i : ℕ) (x : X) → AllByRecursion P xs → P x → AllByRecursion P (take i xs ++ x ∷ drop i xs)
  all_inserted [] zero x h p = (p, tt)
  all_inserted [] (suc i) x h p = (p, tt)
  all_inserted (y ∷ xs) zero x h p = (p, h)
  all_inserted (y ∷ xs) (suc i) x h p = (h.0, all_inserted xs i x h.1 p)

  -- the element at i, read as r
  pub all_at : (xs : List X) (i : ℕ) (r : X) → i < length xs → r ≡ get_or xs i r → AllByRecursion P xs → P r
  all_at [] i r l e h = absurd (omega arith)
  all_at (x ∷ xs) zero r l e h = subst P (sym e) h.0
  all_at (x ∷ xs) (suc i) r l e h = all_at xs i r (omega arith) e h.1

-- ---- names at and below an entry

module _ (P : Bytes → FileMap Bytes → Type 0) where
  abbrev AreNames : FileMap Bytes → List (Path × Bytes) → Type 0
  AreNames f = AllByRecursion (λ e. P e.1 (sub_map f e.0))

  abbrev IsItem : {A : Type 0} → Item A → Type 0
  IsItem (File m n) = Unit {0}
  IsItem (Folder d) = AreNames d.files d.names

  names_under : (c : Bytes) (f g : FileMap Bytes) (names : List (Path × Bytes)) → ((p : Path) → sub_map g (c ∷ p) ≡ sub_map f p) → AreNames f names → AreNames g (map (λ e. (c ∷ e.0, e.1)) names)
  names_under c f g [] s h = tt
  names_under c f g (e ∷ names) s h = (subst (P e.1) (sym (s e.0)) h.0, names_under c f g names s h.1)

  names_from : (c : Bytes) (f g : FileMap Bytes) (names : List (Path × Bytes)) → ((p : Path) → sub_map g (c ∷ p) ≡ sub_map f p) → AreNames g (map (λ e. (c ∷ e.0, e.1)) names) → AreNames f names
  names_from c f g [] s h = tt
  names_from c f g (e ∷ names) s h = (subst (P e.1) (s e.0) h.0, names_from c f g names s h.1)

  below_item : {A : Type 0} (c : Bytes) (i : Item A) (all : Level) → IsLevel all → kept_at c all ≡ Some (shown_item i) → IsItem i → AreNames (files all) (item_names c i)
  below_item c (File m n) all l k h = tt
  below_item c (Folder d) all l k h = names_under c d.files (files all) d.names (λ p. sub_map-files c p all l ∙ ap (λ o. sub_map (map_if o) p) k) h

  from_item : {A : Type 0} (c : Bytes) (i : Item A) (all : Level) → IsLevel all → kept_at c all ≡ Some (shown_item i) → AreNames (files all) (item_names c i) → IsItem i
  from_item c (File m n) all l k h = tt
  from_item c (Folder d) all l k h = names_from c d.files (files all) d.names (λ p. sub_map-files c p all l ∙ ap (λ o. sub_map (map_if o) p) k) h

  abbrev AreKept : {A : Type 0} → Level → List (Entry A) → Type 0
  AreKept all es = AllByRecursion (λ e. kept_at (bytes_of e.component) all ≡ Some (shown_item e.item)) es

  below_items : {A : Type 0} (all : Level) (es : List (Entry A)) → IsLevel all → AreKept all es → AllByRecursion (λ e. IsItem e.item) es → AreNames (files all) (names_below es)
  below_items all [] l k h = tt
  below_items all (e ∷ es) l k h = all_joined (λ x. P x.1 (sub_map (files all) x.0)) (item_names (bytes_of e.component) e.item) (names_below es) (below_item (bytes_of e.component) e.item all l k.0 h.0) (below_items all es l k.1 h.1)

  from_items : {A : Type 0} (all : Level) (es : List (Entry A)) → IsLevel all → AreKept all es → AreNames (files all) (names_below es) → AllByRecursion (λ e. IsItem e.item) es
  from_items all [] l k h = tt
  from_items all (e ∷ es) l k h =
      let Q : Path × Bytes → Type 0 = λ x. P x.1 (sub_map (files all) x.0) in (
        from_item (bytes_of e.component) e.item all l k.0 (all_first Q (item_names (bytes_of e.component) e.item) (names_below es) h),
        from_items all es l k.1 (all_rest Q (item_names (bytes_of e.component) e.item) (names_below es) h),
      )

kept_weaker : {A : Type 0} (e : Entry A) (all : Level) (es : List (Entry A)) → AllByRecursion (IsAfter (shown_entry e)) (shown_entries es) → AllByRecursion (λ f. kept_at (bytes_of f.component) all ≡ Some (shown_item f.item)) es → AllByRecursion (λ f. kept_at (bytes_of f.component) (shown_entry e ∷ all) ≡ Some (shown_item f.item)) es
kept_weaker e all [] a k = tt
kept_weaker e all (f ∷ es) a k = (rw (same_bytes_flip (bytes_of f.component) (bytes_of e.component), a.0.0) k.0, kept_weaker e all es a.1 k.1)

each_is_kept : {A : Type 0} (es : List (Entry A)) → IsLevel (shown_entries es) → AllByRecursion (λ f. kept_at (bytes_of f.component) (shown_entries es) ≡ Some (shown_item f.item)) es
each_is_kept [] h = tt
each_is_kept (e ∷ es) h = (rw (same_itself (bytes_of e.component)) refl, kept_weaker e (shown_entries es) es h.2 (each_is_kept es h.3))

-- ---- directories that are at home

module _ (name : Kind → Bytes → Bytes) (rs : List Record) where
  item_is : {A : Type 0} (i : Item A) → IsItem (IsHome name rs) i → IsItemAtHome name rs i
  item_is (File m n) h = h
  item_is (Folder d) h = h

  is_item : {A : Type 0} (i : Item A) → IsItemAtHome name rs i → IsItem (IsHome name rs) i
  is_item (File m n) h = h
  is_item (Folder d) h = h

  items_are : {A : Type 0} (es : List (Entry A)) → AllByRecursion (λ e. IsItem (IsHome name rs) e.item) es → AreAtHome name rs es
  items_are [] h = tt
  items_are (e ∷ es) h = (item_is e.item h.0, items_are es h.1)

  are_items : {A : Type 0} (es : List (Entry A)) → AreAtHome name rs es → AllByRecursion (λ e. IsItem (IsHome name rs) e.item) es
  are_items [] h = tt
  are_items (e ∷ es) h = (is_item e.item h.0, are_items es h.1)

  -- a directory without a remembered name
  pub made_at_home : {A : Type 0} (es : List (Entry A)) → IsLevel (shown_entries es) → AreAtHome name rs es → IsAtHome name rs (record { files = files (shown_entries es); names = names_below es })
  made_at_home es l h = below_items (IsHome name rs) (shown_entries es) es l (each_is_kept es l) (are_items es h)

  below_own : {A : Type 0} (r : Option Name) (es : List (Entry A)) → IsAtHome name rs (record { files = files (shown_entries es); names = names_of r es }) → IsAtHome name rs (record { files = files (shown_entries es); names = names_below es })
  below_own None es h = h
  below_own (Some n) es h = h.1

  -- the entries of a directory
  pub entries_at_home : {A : Type 0} (r : Option Name) (es : List (Entry A)) (t : NamedTree) → record { files = files (shown_entries es); names = names_of r es } ≡ t → IsLevel (shown_entries es) → IsAtHome name rs t → AreAtHome name rs es
  entries_at_home r es t view l h = items_are es (from_items (IsHome name rs) (shown_entries es) es l (each_is_kept es l) (below_own r es (subst (IsAtHome name rs) (sym view) h)))

  -- a directory that remembers its name
  pub named_at_home : {A : Type 0} (n : Name) (es : List (Entry A)) → IsLevel (shown_entries es) → IsHome name rs n.bytes (files (shown_entries es)) → AreAtHome name rs es → IsAtHome name rs (record { files = files (shown_entries es); names = names_of (Some n) es })
  named_at_home n es l own h = (subst (IsHome name rs n.bytes) (sym (sub_map-whole (files (shown_entries es)))) own, made_at_home es l h)
