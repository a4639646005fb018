-- Parts of trees once they are written: each directory remembers the name of its tree, and what is so named is held.
use Rattle.std.specs.Prelude.{◌≡◌, List, [], ◌∷◌, ◌++◌, IsTrue}
use Rattle.std.specs.declared.rc.Rc.{Rc}
use Rattle.std.specs.declared.vec.Vec.{Vec}
use Rattle.gx_model.specs.declared.objects.Kind.{Kind}
use Rattle.gx_model.specs.Texts.{Bytes}
use Rattle.gx_model.specs.Histories.Files.{FileMap}
use Rattle.gx_model.specs.Histories.{Record}
use Rattle.gx_tree.specs.Homes.{AreAtHome, IsItemAtHome}
use Rattle.gx_tree.specs.Named.{NamedTree, IsAtHome, is_named}
use Rattle.gx_tree.specs.Nodes.{files}
use Rattle.gx_tree.specs.Views.{RememberAll, Remembers, shown_entries, shown_item}
use Rattle.gx_tree.specs.Writes.{level_records, own_record}
use Rattle.gx_tree.specs.declared.directory.Item.{Item}
use Rattle.gx_tree.specs.declared.directory.Entry.{Entry}

-- the directory of these files, written
pub record IsWritten (name : Kind → Bytes → Bytes) (rs : List Record) (f : FileMap Bytes) (d : NamedTree) : Type 0 where
  pub files : d.files ≡ f
  pub home : IsAtHome name rs d
  pub remembers : IsTrue (is_named d.names)

-- an item, written
pub record IsItemWritten {A : Type 0} (name : Kind → Bytes → Bytes) (rs : List Record) (old new : Item A) : Type 0 where
  pub kept : shown_item new ≡ shown_item old
  pub home : IsItemAtHome name rs new
  pub remembers : Remembers new

-- entries, written
pub record AreWritten {A : Type 0} (name : Kind → Bytes → Bytes) (rs : List Record) (old new : List (Entry A)) : Type 0 where
  pub seen : shown_entries new ≡ shown_entries old
  pub home : AreAtHome name rs new
  pub remember : RememberAll new

-- entries that may be shared, written
abbrev pub AreWrittenIn : {A : Type 0} → (Kind → Bytes → Bytes) → List Record → Rc (Vec (Entry A) A) A → Rc (Vec (Entry A) A) A → Type 0
AreWrittenIn name rs old new = AreWritten name rs old.value.items new.value.items

-- the old entries, with an item at a component behind them
abbrev pub PushesItem : {A : Type 0} → Bytes → Item A → Vec (Entry A) A → Vec (Entry A) A → Type 0
PushesItem c item old new = shown_entries new.items ≡ shown_entries old.items ++ (c, shown_item item) ∷ []

-- where the item and all old entries remember their names, all new ones do
abbrev pub RemembersMore : {A : Type 0} → Item A → Vec (Entry A) A → Vec (Entry A) A → Type 0
RemembersMore item old new = Remembers item → RememberAll old.items → RememberAll new.items

-- the records of the trees below entries
abbrev pub records_below : {A : Type 0} → (Kind → Bytes → Bytes) → List (Entry A) → List Record
records_below name es = level_records name (shown_entries es)

-- the record of the tree of entries, without those below it
abbrev pub record_above : {A : Type 0} → (Kind → Bytes → Bytes) → List (Entry A) → List Record
record_above name es = own_record name (files (shown_entries es))

-- what is made of x is written where the new records are held
abbrev pub Writes : {N X Y : Type 0} → (N → Kind → Bytes → Bytes) → ((Kind → Bytes → Bytes) → List Record → X → Y → Type 0) → N × List Record → N × List Record → X → Y → Type 0
Writes names P old new = P (names old.0) new.1
