-- What writing a tree puts into a store.
use Rattle.std.specs.Prelude.{◌≡◌, List, [], ◌∷◌, ◌++◌, length, take, Some, None, Result, Ok, Err}
use Rattle.std.specs.List.{flat_map}
use Rattle.gx_model.specs.declared.objects.Kind.{Kind}
use Rattle.gx_model.specs.declared.objects.Kind.TheVariants as kind
use Rattle.gx_model.specs.declared.objects.Mode.TheVariants.{Dir}
use Rattle.gx_model.specs.Texts.{Bytes}
use Rattle.gx_model.specs.Histories.Files.{FileMap, Leaf}
use Rattle.gx_model.specs.Records.{tree_body}
use Rattle.gx_model.specs.Histories.{Record}
use Rattle.gx_model.specs.Records.Growth.{put_all, tree_record, tree_records}
use Rattle.gx_object.specs.declared.name.Name.{Name}
use Rattle.gx_tree.specs.Nodes.{Kept, Level, file, folder}
use Rattle.gx_tree.specs.declared.fault.TreeFault.{TreeFault}
use Rattle.gx_tree.specs.declared.fault.TreeFault.TheVariants.{OutOfMemory, NameHeld}

module _ (name : Kind → Bytes → Bytes) where
  -- the name of a map's tree
  abbrev pub map_name : FileMap Bytes → Bytes
  map_name g = name kind.Tree (tree_body name g)

  -- n is the name of a map's tree
  abbrev pub IsTreeName : FileMap Bytes → Name → Type 0
  IsTreeName g n = n.bytes ≡ map_name g

  -- what an entry is and names
  abbrev pub kept_leaf : Kept → Leaf Bytes
  kept_leaf (file x) = x
  kept_leaf (folder g) = (Dir, map_name g)

  -- the record of a map's own tree, without those below it
  abbrev pub own_record : FileMap Bytes → List Record
  own_record g = tree_record name g ∷ []

  -- the records of a directory's trees, and none of a file
  abbrev pub kept_records : Kept → List Record
  kept_records (file x) = []
  kept_records (folder g) = tree_records name g

  -- the records of the trees below a directory's entries
  abbrev pub level_records : Level → List Record
  level_records = flat_map (λ e. kept_records e.1)

-- the namer stays, and the old records stay in front
pub record Extends {N : Type 0} (old new : N × List Record) : Type 0 where
  pub namer : new.0 ≡ old.0
  pub front : take (length old.1) new.1 ≡ old.1

-- of these records a front is put, and nothing else
abbrev pub PutsFront : List Record → List Record → List Record → Type 0
PutsFront rs old new = (front : List Record) × (rest : List Record) × (rs ≡ front ++ rest) × (put_all old front ≡ Some new)

-- these records are put; or a front of them alone, where one of them has the name of another or memory is wanting
abbrev pub PutsAll : {Y : Type 0} → List Record → List Record → List Record → Result Y TreeFault → Type 0
PutsAll rs old new (Ok y) = put_all old rs ≡ Some new
PutsAll rs old new (Err NameHeld) = (put_all old rs ≡ None) × PutsFront rs old new
PutsAll rs old new (Err OutOfMemory) = PutsFront rs old new
PutsAll rs old new (Err f) = ⊥

-- the records of x by the store's namer are put into the store, or a front of them alone
abbrev pub StoresAll : {N X Y : Type 0} → (N → Kind → Bytes → Bytes) → ((Kind → Bytes → Bytes) → X → List Record) → X → N × List Record → N × List Record → Result Y TreeFault → Type 0
StoresAll names records_of x old new = PutsAll (records_of (names old.0) x) old.1 new.1
