-- What the fields of a directory are seen as.
use Rattle.std.specs.Prelude.{ℕ, List, [], ◌∷◌, map, Option, Some, None, IsTrue, ⊤}
use Rattle.std.specs.List.{flat_map, AllByRecursion}
use Rattle.std.specs.Option.{unwrap_or}
use Rattle.std.specs.Borrow.{Bor}
use Rattle.gx_model.specs.Texts.{Bytes}
use Rattle.gx_model.specs.declared.objects.Mode.TheVariants.{Dir}
use Rattle.gx_model.specs.Histories.Files.{FileMap, Leaf}
use Rattle.gx_model.specs.Objects.{Entry as TreeEntry}
use Rattle.gx_model.specs.Texts.Paths.{Path}
use Rattle.gx_object.specs.declared.name.Name.{Name}
use Rattle.gx_tree.specs.Components.{bytes_of}
use Rattle.gx_tree.specs.Named.{NamedTree, is_named, no_files, own_name}
use Rattle.gx_tree.specs.Nodes.{IsLevel, Kept, Level, file, files, folder}
use Rattle.gx_tree.specs.Rooms.{IsReach}
use Rattle.gx_tree.specs.declared.directory.Item.{Item}
use Rattle.gx_tree.specs.declared.directory.Item.TheVariants.{File, Folder}
use Rattle.gx_tree.specs.declared.directory.Entry.{Entry}

abbrev pub shown_item : {A : Type 0} → Item A → Kept
shown_item (File m n) = file (m, n.bytes)
shown_item (Folder d) = folder d.files

abbrev pub shown_entry : {A : Type 0} → Entry A → Bytes × Kept
shown_entry e = (bytes_of e.component, shown_item e.item)

abbrev pub shown_entries : {A : Type 0} → List (Entry A) → Level
shown_entries = map shown_entry

-- what a reference to an item, if there is one, stands for
abbrev pub shown_lent : {A : Type 0} → Option (Bor (Item A)) → Option Kept
shown_lent None = None
shown_lent (Some i) = Some (shown_item i.now)

abbrev pub option_files : Option (Bor NamedTree) → FileMap Bytes
option_files None = []
option_files (Some d) = d.now.files

abbrev pub shown_item_if : {A : Type 0} → Option (Item A) → Option Kept
shown_item_if None = None
shown_item_if (Some i) = Some (shown_item i)

-- the files of a root, with the names that are remembered
abbrev pub root_tree : Option NamedTree → NamedTree
root_tree None = no_files
root_tree (Some d) = d

-- the names that are remembered at and below an entry
abbrev pub item_names : {A : Type 0} → Bytes → Item A → List (Path × Bytes)
item_names c (File m n) = []
item_names c (Folder d) = map (λ e. (c ∷ e.0, e.1)) d.names

abbrev pub names_below : {A : Type 0} → List (Entry A) → List (Path × Bytes)
names_below = flat_map (λ e. item_names (bytes_of e.component) e.item)

-- with that of the whole first, if it is remembered
abbrev pub names_of : {A : Type 0} → Option Name → List (Entry A) → List (Path × Bytes)
names_of None es = names_below es
names_of (Some n) es = ([], n.bytes) ∷ names_below es

-- the tree of a directory's entries, with its name, where that is remembered
abbrev pub tree_of : {A : Type 0} → Option Name → List (Entry A) → NamedTree
tree_of r es = record { files = files (shown_entries es); names = names_of r es }

-- a directory remembers the name of its tree
abbrev pub Remembers : {A : Type 0} → Item A → Type 0
Remembers (File m n) = ⊤
Remembers (Folder d) = IsTrue (is_named d.names)

-- all directories among the entries remember theirs
abbrev pub RememberAll : {A : Type 0} → List (Entry A) → Type 0
RememberAll es = AllByRecursion (λ e. Remembers e.item) es

-- an entry of a tree, by the name that it remembers
abbrev pub own_leaf : {A : Type 0} → Item A → Leaf Bytes
own_leaf (File m n) = (m, n.bytes)
own_leaf (Folder d) = (Dir, unwrap_or (own_name d.names) [])

abbrev pub own_entry : {A : Type 0} → Entry A → TreeEntry
own_entry e = record { mode = (own_leaf e.item).0; component = bytes_of e.component; name = (own_leaf e.item).1 }

-- where a name is remembered, all directories below remember theirs
abbrev pub RemembersBelow : {A : Type 0} → Option Name → List (Entry A) → Type 0
RemembersBelow None es = ⊤
RemembersBelow (Some n) es = RememberAll es

-- the entries stand in their order, their names are remembered where that of the whole is, and they reach as far as is kept
abbrev pub IsDirectory : {A : Type 0} → Option Name → ℕ → List (Entry A) → Type 0
IsDirectory remembered reach es = IsLevel (shown_entries es) × RemembersBelow remembered es × IsReach reach (files (shown_entries es))
