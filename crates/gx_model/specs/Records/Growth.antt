-- How records grow: one is put, or the trees of a file map are, each after its sub-trees. Source: Pro Git, "Git Objects", on content-addressed storage.
use Rattle.std.specs.Prelude.{ℕ, zero, suc, Bool, true, false, not, ◌&&◌, if◌then◌else◌, List, [], ◌∷◌, ◌++◌, map, Option, None, Some, IsTrue, ⊤}
use Rattle.std.specs.List.{list_any, flat_map, AllByRecursion}
use Rattle.gx_model.specs.declared.objects.Kind.{Kind}
use Rattle.gx_model.specs.declared.objects.Kind.TheVariants as kind
use Rattle.gx_model.specs.Texts.{Bytes, same_bytes}
use Rattle.gx_model.specs.Histories.Files.{FileMap, depth}
use Rattle.gx_model.specs.Histories.Values.{Value, is_proper, parts, sub_maps}
use Rattle.gx_model.specs.Records.{name_of, tree_body}
use Rattle.gx_model.specs.Histories.{IsIn, Record, is_in, with_one}
use Rattle.std.specs.Option.{option_and_then}

-- whether two kinds are equal
abbrev pub same_kind : Kind → Kind → Bool
same_kind kind.Blob kind.Blob = true
same_kind kind.Tree kind.Tree = true
same_kind kind.Commit kind.Commit = true
same_kind kind.Tag kind.Tag = true
same_kind _ _ = false

-- one kind and one body
abbrev pub same_object : Record → Record → Bool
same_object held other = same_kind held.kind other.kind && same_bytes held.body other.body

-- the record of a name
abbrev pub record_named : List Record → Bytes → Option Record
record_named [] name = None
record_named (r ∷ rs) name = if same_bytes name r.name then Some r else record_named rs name

-- a record put where its name has this one
abbrev pub put_under : Option Record → List Record → Record → Option (List Record)
put_under None records new = Some (records ++ new ∷ [])
put_under (Some held) records new = if same_object held new then Some records else None

-- a record last, unless it is held; or none where another one has its name
abbrev pub put : List Record → Record → Option (List Record)
put records new = put_under (record_named records new.name) records new

-- records put one after the other
abbrev pub put_all : List Record → List Record → Option (List Record)
put_all records [] = Some records
put_all records (n ∷ ns) = option_and_then (λ now. put_all now ns) (put records n)

-- a file map's sub-maps at first components, each in this way, and then the map
abbrev pub all_trees_to : ℕ → FileMap Bytes → List (FileMap Bytes)
all_trees_to zero files = files ∷ []
all_trees_to (suc n) files = flat_map (all_trees_to n) (sub_maps files) ++ files ∷ []

-- a file map and its sub-maps, those first
abbrev pub all_trees : FileMap Bytes → List (FileMap Bytes)
all_trees files = all_trees_to (depth files) files

-- each value is proper, and its parts stand when it is added
abbrev pub AreReady : List Value → List Value → Type 0
AreReady values [] = ⊤
AreReady values (w ∷ ws) = IsTrue (is_proper w) × AllByRecursion (IsIn values) (parts w) × AreReady (with_one values w) ws

module _ (name : Kind → Bytes → Bytes) where
  -- the record of a map of names
  abbrev pub tree_record : FileMap Bytes → Record
  tree_record names = record { name = name kind.Tree (tree_body name names); kind = kind.Tree; body = tree_body name names }

  -- the records of a map of names and of what is below it, in the order in which they are put
  abbrev pub tree_records : FileMap Bytes → List Record
  tree_records names = map tree_record (all_trees names)

  -- the value is new, and has the name of another one
  abbrev pub clashes : List Value → Value → Bool
  clashes values value = not (is_in values value) && list_any (same_bytes (name_of name value)) (map (name_of name) values)

  -- the values one after the other, or none where one clashes with those that stand then
  abbrev pub with_values : List Value → List Value → Option (List Value)
  with_values values [] = Some values
  with_values values (w ∷ ws) = if clashes values w then None else with_values (with_one values w) ws
