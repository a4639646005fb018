-- Directories that are made of held trees.
use Rattle.std.specs.Prelude.{List, ◌++◌, Option, IfSome, IsTrue}
use Rattle.std.specs.BTreeMap.{get}
use Rattle.gx_model.specs.declared.objects.Kind.{Kind}
use Rattle.gx_model.specs.Texts.{Bytes, byte_cmp}
use Rattle.gx_model.specs.Histories.{Record}
use Rattle.gx_model.specs.Objects.NameMaps.{IsHeldTree}
use Rattle.gx_object.specs.declared.name.Name.{Name}
use Rattle.gx_tree.specs.Named.{IsAtHome, NamedTree, is_named}
use Rattle.gx_tree.specs.declared.loaded.LoadedTrees.{LoadedTrees}

-- the directory that is entered for a tree's name
abbrev pub directory_at : {A : Type 0} → LoadedTrees A → Name → Option NamedTree
directory_at loaded n = get (λ x y. byte_cmp x.bytes y.bytes) loaded.directories n

-- d has the files of the held tree that n names, and remembers that name
pub record IsLoaded (name : Kind → Bytes → Bytes) (rs : List Record) (n : Bytes) (d : NamedTree) : Type 0 where
  pub held : IsHeldTree name rs n d.files
  pub home : IsAtHome name rs d
  pub remembers : IsTrue (is_named d.names)

-- each directory is loaded from the tree whose name it is entered for
abbrev pub AreLoaded : {A : Type 0} → (Kind → Bytes → Bytes) → List Record → LoadedTrees A → Type 0
AreLoaded name rs loaded = (n : Name) → IfSome (directory_at loaded n) (IsLoaded name rs n.bytes)

-- with d entered for n each directory is still loaded so, wherever d is loaded from the tree that n names
abbrev pub EntersLoaded : {A : Type 0} → Name → NamedTree → LoadedTrees A → LoadedTrees A → Type 0
EntersLoaded n d old new = (name : Kind → Bytes → Bytes) (rs : List Record) → AreLoaded name rs old → IsLoaded name rs n.bytes d → AreLoaded name rs new

-- each directory is still loaded from the tree whose name it is entered for
abbrev pub KeepsLoaded : {A : Type 0} → LoadedTrees A → LoadedTrees A → Type 0
KeepsLoaded old new = (name : Kind → Bytes → Bytes) (rs : List Record) → AreLoaded name rs old → AreLoaded name rs new

-- each directory is loaded so, whatever names are given and whatever records are held
abbrev pub AreLoadedAnywhere : {A : Type 0} → LoadedTrees A → Type 0
AreLoadedAnywhere loaded = (name : Kind → Bytes → Bytes) (rs : List Record) → AreLoaded name rs loaded

-- a directory that is loaded from a held tree is so with more records behind those that are held
abbrev pub MoreRecordsKeepLoaded : Type 0
MoreRecordsKeepLoaded = (name : Kind → Bytes → Bytes) (old more : List Record) (n : Bytes) (directory : NamedTree) → IsLoaded name old n directory → IsLoaded name (old ++ more) n directory
