-- Parts of trees that are at home where some records are held.
use Rattle.std.specs.Prelude.{List, Option, None, Some, ⊤}
use Rattle.std.specs.Borrow.{Bor}
use Rattle.std.specs.List.{AllByRecursion}
use Rattle.std.specs.declared.rc.Rc.{Rc}
use Rattle.std.specs.declared.vec.Vec.{Vec}
use Rattle.gx_model.specs.declared.objects.Kind.{Kind}
use Rattle.gx_model.specs.Texts.{Bytes}
use Rattle.gx_model.specs.Histories.{Record}
use Rattle.gx_tree.specs.Named.{NamedTree, IsAtHome}
use Rattle.gx_tree.specs.declared.copying.Held.{Held}
use Rattle.gx_tree.specs.declared.copying.Held.TheVariants as held
use Rattle.gx_tree.specs.declared.directory.Item.{Item}
use Rattle.gx_tree.specs.declared.directory.Item.TheVariants.{File, Folder}
use Rattle.gx_tree.specs.declared.directory.Entry.{Entry}

-- what holds of something by the names that a namer gives, and the records that are held
abbrev pub InStore : Type 0 → Type 1
InStore X = (Kind → Bytes → Bytes) → List Record → X → Type 0

-- it holds of something by the names of a store's namer, and the records that the store holds
abbrev pub HoldsIn : {N X : Type 0} → (N → Kind → Bytes → Bytes) → N × List Record → InStore X → X → Type 0
HoldsIn names store P = P (names store.0) store.1

-- the one holds wherever the other does
abbrev pub Keeps : {X Y : Type 0} → InStore X → InStore Y → X → Y → Type 0
Keeps P Q x y = (name : Kind → Bytes → Bytes) (rs : List Record) → P name rs x → Q name rs y

-- both hold
abbrev pub Both : {X Y : Type 0} → InStore X → InStore Y → InStore (X × Y)
Both P Q name rs p = P name rs p.0 × Q name rs p.1

-- it holds of what is there, if something is
abbrev pub IfThere : {X : Type 0} → InStore X → InStore (Option X)
IfThere P name rs None = ⊤
IfThere P name rs (Some x) = P name rs x

-- it holds of what is borrowed
abbrev pub Borrowed : {X : Type 0} → InStore X → InStore (Bor X)
Borrowed P name rs x = P name rs x.now

abbrev pub IsItemAtHome : {A : Type 0} → InStore (Item A)
IsItemAtHome name rs (File m n) = ⊤
IsItemAtHome name rs (Folder d) = IsAtHome name rs d

-- the item that is lent is at home, if there is one
abbrev pub IsLentAtHome : {A : Type 0} → InStore (Option (Bor (Item A)))
IsLentAtHome = IfThere (Borrowed IsItemAtHome)

abbrev pub AreAtHome : {A : Type 0} → InStore (List (Entry A))
AreAtHome name rs es = AllByRecursion (λ e. IsItemAtHome name rs e.item) es

abbrev pub IsHeldAtHome : {A : Type 0} → InStore (Held A)
IsHeldAtHome name rs (held.File m n) = ⊤
IsHeldAtHome name rs (held.Folder d) = IsAtHome name rs d.now

-- entries that are made of x and of old entries are at home wherever both are
abbrev pub EntriesKeepHome : {A X : Type 0} → InStore X → X → List (Entry A) → Vec (Entry A) A → Type 0
EntriesKeepHome P x old new = Keeps (Both P AreAtHome) AreAtHome (x, old) new.items

-- a tree that is made of an item and of another tree is at home wherever both are
abbrev pub GraftKeepsHome : {A : Type 0} → Item A → NamedTree → NamedTree → Type 0
GraftKeepsHome item old new = Keeps (Both IsItemAtHome IsAtHome) IsAtHome (item, old) new

-- the same of an item that is made of two
abbrev pub ItemKeepsHome : {A : Type 0} → Item A → Item A → Item A → Type 0
ItemKeepsHome item old new = Keeps (Both IsItemAtHome IsItemAtHome) IsItemAtHome (item, old) new

-- and of entries that may be shared
abbrev pub BelowKeepHome : {A : Type 0} → Item A → Rc (Vec (Entry A) A) A → Rc (Vec (Entry A) A) A → Type 0
BelowKeepHome item old new = EntriesKeepHome IsItemAtHome item old.value.items new.value
