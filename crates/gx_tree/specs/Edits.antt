-- What an edit makes of a directory's entries, of what stands at one of them, and of the files below.
use Rattle.std.specs.Prelude.{◌≡◌, ℕ, ◌+◌, Bool, IsTrue, drop, false, get_or, not, ◌||◌, List, [], ◌∷◌, Option, None, Some}
use Rattle.std.specs.declared.rc.Rc.{Rc}
use Rattle.std.specs.declared.vec.Vec.{Vec}
use Rattle.gx_model.specs.Histories.Edits.{removed}
use Rattle.gx_model.specs.Histories.Files.{FileMap}
use Rattle.gx_model.specs.Texts.{Bytes, same_bytes}
use Rattle.gx_model.specs.Texts.Paths.{Path}
use Rattle.gx_tree.specs.Named.{NamedTree}
use Rattle.gx_tree.specs.Nodes.{Kept, Level, files, inserted, kept_at, kept_map, with_kept}
use Rattle.gx_tree.specs.Steps.{grafted, kept_grafted, kept_removed, replaced}
use Rattle.gx_tree.specs.Views.{shown_item, shown_item_if, shown_entries}
use Rattle.gx_tree.specs.declared.directory.Entry.{Entry}
use Rattle.gx_tree.specs.declared.directory.Item.{Item}

-- ---- entries

-- what entries that may be shared are seen as
abbrev pub level_in : {A : Type 0} → Rc (Vec (Entry A) A) A → Level
level_in entries = shown_entries entries.value.items

-- the files below them
abbrev pub files_below : {A : Type 0} → Rc (Vec (Entry A) A) A → FileMap Bytes
files_below entries = files (level_in entries)

-- the old entries, with the item at the component, in place of what stood there
abbrev pub ReplacesItem : {A : Type 0} → Bytes → Item A → List (Entry A) → Vec (Entry A) A → Type 0
ReplacesItem c item old new = shown_entries new.items ≡ with_kept c (shown_item item) (shown_entries old)

-- the old entries, with the item at the component, at its place in the order
abbrev pub InsertsItem : {A : Type 0} → Bytes → Item A → Vec (Entry A) A → Vec (Entry A) A → Type 0
InsertsItem c item old new = shown_entries new.items ≡ inserted c (shown_item item) (shown_entries old.items)

-- ---- what is put

-- a tree with k at the path, in place of what is in line with it
abbrev pub Grafts : Path → Kept → NamedTree → NamedTree → Type 0
Grafts p k old new = new.files ≡ grafted p (kept_map k) old.files

-- what stands at a component, with an item at the path behind it
abbrev pub GraftsItem : {A : Type 0} → Path → Item A → Option Kept → Item A → Type 0
GraftsItem p item old new = shown_item new ≡ kept_grafted p (shown_item item) old

-- entries, with k at the path: what stands at its first component is another
abbrev pub with_grafted : Path → Kept → Level → Level
with_grafted [] k es = es
with_grafted (c ∷ p) k es = with_kept c (kept_grafted p k (kept_at c es)) es

-- the files below the entries are the old ones, with an item at the path, in place of what is in line with it
abbrev pub GraftsFiles : {A : Type 0} → Path → Item A → List (Entry A) → Vec (Entry A) A → Type 0
GraftsFiles p item old new = files (shown_entries new.items) ≡ grafted p (kept_map (shown_item item)) (files (shown_entries old))

-- what is put at the path, from the component at i on, stands there as where nothing stood at that component
abbrev pub StandsAnew : {A : Type 0} → ℕ → Path → List (Entry A) → Type 0
StandsAnew i p es = (k : Kept) → kept_grafted (drop (i + 1) p) k None ≡ kept_grafted (drop (i + 1) p) k (kept_at (get_or p i []) (shown_entries es))

-- ---- what is removed

-- what is left of an item, if anything, without what stands at or below the path in it
abbrev pub IsLeftOf : {A : Type 0} → Path → Item A → Option (Item A) → Type 0
IsLeftOf p old left = shown_item_if left ≡ kept_removed p (Some (shown_item old))

-- entries without what stands at or below the path: what stands at its first component is another, or nothing
abbrev pub without_path : Path → Level → Level
without_path [] es = es
without_path (c ∷ p) es = replaced c (kept_removed p (kept_at c es)) es

-- the entries are the old ones without what stood at or below the path
abbrev pub RemovesPath : {A : Type 0} → Path → List (Entry A) → Vec (Entry A) A → Type 0
RemovesPath p old new = shown_entries new.items ≡ without_path p (shown_entries old)

-- the files below the entries are the old ones, but for what stood at or below the path
abbrev pub RemovesFiles : {A : Type 0} → Path → List (Entry A) → Vec (Entry A) A → Type 0
RemovesFiles p old new = files (shown_entries new.items) ≡ removed (files (shown_entries old)) p

-- the same of entries that may be shared
abbrev pub RemovesIn : {A : Type 0} → Path → Rc (Vec (Entry A) A) A → Rc (Vec (Entry A) A) A → Type 0
RemovesIn p old new = RemovesFiles p old.value.items new.value

-- ---- what is renamed

-- neither of two paths begins with the other
abbrev pub are_apart : Path → Path → Bool
are_apart [] q = false
are_apart (c ∷ p) [] = false
are_apart (c ∷ p) (d ∷ q) = not (same_bytes c d) || are_apart p q

-- the same of what is left of the paths from the component at i on
abbrev pub AreApart : ℕ → Path → Path → Type 0
AreApart i s d = IsTrue (are_apart (drop i s) (drop i d))

-- the files without what stood at or below s, and with an item's at d, in place of what is in line with it
abbrev pub carried : {A : Type 0} → ℕ → Path → Path → Item A → FileMap Bytes → FileMap Bytes
carried i s d item f = grafted (drop i d) (kept_map (shown_item item)) (removed f (drop i s))

-- a tree has become one with these files, by the paths from the component at i on
abbrev pub Carries : {A : Type 0} → ℕ → Path → Path → Item A → NamedTree → NamedTree → Type 0
Carries i s d item old new = new.files ≡ carried i s d item old.files

-- the same of an item that stands there
abbrev pub CarriesBelow : {A : Type 0} → ℕ → Path → Path → Item A → Item A → Item A → Type 0
CarriesBelow i s d item old new = shown_item new ≡ kept_grafted (drop i d) (shown_item item) (kept_removed (drop i s) (Some (shown_item old)))

-- of entries
abbrev pub CarriesAt : {A : Type 0} → ℕ → Path → Path → Item A → Vec (Entry A) A → Vec (Entry A) A → Type 0
CarriesAt i s d item old new = files (shown_entries new.items) ≡ carried i s d item (files (shown_entries old.items))
