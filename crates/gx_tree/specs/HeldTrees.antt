-- Trees that are held whole, and whose paths are short enough.
use Rattle.std.specs.Prelude.{◌≡◌, ◌≢◌, ℕ, ◌-◌, ◌<◌, List, length, IsTrue}
use Rattle.std.specs.List.{list_all}
use Rattle.gx_model.specs.declared.objects.Kind.{Kind}
use Rattle.gx_model.specs.declared.objects.Mode.TheVariants.{Dir}
use Rattle.gx_model.specs.Texts.{Bytes}
use Rattle.gx_model.specs.Histories.Files.{FileMap}
use Rattle.gx_model.specs.Histories.{Record}
use Rattle.gx_model.specs.Objects.NameMaps.{IsHeldTree}
use Rattle.gx_object.specs.declared.entry.Entry.{Entry}
use Rattle.gx_object.specs.declared.name.Name.{Name}
use Rattle.gx_tree.specs.Nodes.{Kept, file, folder}
use Rattle.gx_tree.specs.Rooms.{is_within}
use Rattle.gx_tree.specs.Views.{shown_item}
use Rattle.gx_tree.specs.Writes.{kept_leaf, map_name}
use Rattle.gx_tree.specs.declared.directory.Item.{Item}

-- a held tree whose paths have at most so many bytes
abbrev pub IsHeldWithin : (Kind → Bytes → Bytes) → List Record → ℕ → Bytes → FileMap Bytes → Type 0
IsHeldWithin name rs room n g = IsHeldTree name rs n g × IsTrue (list_all (is_within room) g)

-- what an entry at a component stands for
abbrev pub IsHeldEntry : (Kind → Bytes → Bytes) → List Record → ℕ → Bytes × Kept → Type 0
IsHeldEntry name rs room (c, file x) = x.0 ≢ Dir
IsHeldEntry name rs room (c, folder g) = (length c < room) × IsHeldWithin name rs (room - length c - 1) (map_name name g) g

module _ (name : Kind → Bytes → Bytes) (rs : List Record) where
  -- n names the tree of g, which is held with all trees below it
  abbrev pub HoldsTree : FileMap Bytes → Name → Type 0
  HoldsTree g n = IsHeldTree name rs n.bytes g

  -- n names a tree that is held with all trees below it
  abbrev pub NamesHeldTree : Name → Type 0
  NamesHeldTree n = (g : FileMap Bytes) × IsHeldTree name rs n.bytes g

  -- n names such a tree whose paths have at most so many bytes
  abbrev pub NamesTreeWithin : ℕ → Name → Type 0
  NamesTreeWithin room n = (g : FileMap Bytes) × IsHeldWithin name rs room n.bytes g

  -- an entry of a tree stands for a file, or for such a directory, whose paths have at most so many bytes
  abbrev pub NamesKeptWithin : ℕ → Entry → Type 0
  NamesKeptWithin room e = (k : Kept) × IsHeldEntry name rs room (e.component.now, k) × (kept_leaf name k ≡ (e.mode, e.name.bytes))

  -- the item is what an entry of a tree stands for, where that is held
  abbrev pub IsItemOf : {A : Type 0} → Entry → Item A → Type 0
  IsItemOf e i = (k : Kept) (most : ℕ) → IsHeldEntry name rs most (e.component.now, k) → kept_leaf name k ≡ (e.mode, e.name.bytes) → shown_item i ≡ k
