-- Trees whose directories may remember the names of theirs, and the stores that hold what is so named.
use Rattle.std.specs.Prelude.{◌≡◌, ◌≢◌, Bool, IsTrue, List, [], ◌∷◌, ◌++◌, Option, None, Some, if◌then◌else◌, is_some}
use Rattle.std.specs.List.{AllByRecursion}
use Rattle.gx_model.specs.declared.objects.Kind.{Kind}
use Rattle.gx_model.specs.Texts.{Bytes}
use Rattle.gx_model.specs.Texts.Paths.{Path}
use Rattle.gx_model.specs.Histories.Edits.{is_root}
use Rattle.gx_model.specs.Histories.Files.{FileMap, sub_map}
use Rattle.gx_model.specs.Histories.{Record}
use Rattle.gx_model.specs.Records.Growth.{record_named, tree_records}
use Rattle.gx_tree.specs.Writes.{map_name}

-- the files, and the remembered names, each with the path of its directory
pub record NamedTree : Type 0 where
  pub files : FileMap Bytes
  pub names : List (Path × Bytes)

-- no files
abbrev pub no_files : NamedTree
no_files = record { files = []; names = [] }

-- the name of the whole, which comes first
abbrev pub own_name : List (Path × Bytes) → Option Bytes
own_name [] = None
own_name (e ∷ names) = if is_root e.0 then Some e.1 else None

-- whether the whole has a name
abbrev pub is_named : List (Path × Bytes) → Bool
is_named names = is_some (own_name names)

-- a tree that has files remembers the name of the whole
abbrev pub RemembersName : NamedTree → Type 0
RemembersName t = t.files ≢ [] → IsTrue (is_named t.names)

module _ (name : Kind → Bytes → Bytes) (rs : List Record) where
  -- n names the tree of g, which is held with all trees below it
  pub record IsHome (n : Bytes) (g : FileMap Bytes) : Type 0 where
    pub named : n ≡ map_name name g
    pub held : AllByRecursion (λ r. record_named rs r.name ≡ Some r) (tree_records name g)

  -- each remembered name is that of its directory's tree, which is held with all trees below it
  abbrev pub IsAtHome : NamedTree → Type 0
  IsAtHome t = AllByRecursion (λ e. IsHome e.1 (sub_map t.files e.0)) t.names

-- the other is at home wherever the one is
abbrev pub KeepsHome : NamedTree → NamedTree → Type 0
KeepsHome old new = (name : Kind → Bytes → Bytes) (rs : List Record) → IsAtHome name rs old → IsAtHome name rs new

-- a tree that is at home stays so with more records behind those that are held
abbrev pub MoreRecordsKeepHome : Type 0
MoreRecordsKeepHome = (name : Kind → Bytes → Bytes) (old more : List Record) (tree : NamedTree) → IsAtHome name old tree → IsAtHome name (old ++ more) tree
