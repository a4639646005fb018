-- Walking down tree records along a path. Source: gitrevisions(7), "<rev>:<path>".
use Rattle.std.specs.Prelude.{if◌then◌else◌, List, [], ◌∷◌, Option, None, Some}
use Rattle.gx_model.specs.declared.objects.Kind.{Kind}
use Rattle.gx_model.specs.declared.objects.Mode.TheVariants.{Dir}
use Rattle.gx_model.specs.Texts.{Bytes, same_bytes}
use Rattle.gx_model.specs.Texts.Paths.{Path}
use Rattle.gx_model.specs.Histories.Files.{FileMap, Leaf, file_at, sub_map}
use Rattle.gx_model.specs.Objects.{Entry, is_dir}
use Rattle.gx_model.specs.Records.{content_name, tree_name}
use Rattle.gx_model.specs.Histories.{Record}
use Rattle.gx_model.specs.Records.HistoryOf.{entries_in}
use Rattle.gx_model.specs.Records.Growth.{record_named}

-- the entry with this component
abbrev pub entry_at : List Entry → Bytes → Option Entry
entry_at [] component = None
entry_at (e ∷ es) component = if same_bytes component e.component then Some e else entry_at es component

-- the entries of the tree of this name
abbrev pub entries_named : List Record → Bytes → List Entry
entries_named records name = elim (record_named records name) [ None ↦ [] | Some held ↦ entries_in held.body ]

-- what a file's name gives for the rest of a path
abbrev pub place_at_end : Path → Leaf Bytes → Option (Leaf Bytes)
place_at_end [] place = Some place
place_at_end (c ∷ p) place = None

-- an entry, with the rest of a path and what a tree's name gives for it
abbrev pub walked_from : Option Entry → Path → (Bytes → Option (Leaf Bytes)) → Option (Leaf Bytes)
walked_from None path below = None
walked_from (Some entry) path below = if is_dir entry.mode then below entry.name else place_at_end path (entry.mode, entry.name)

-- from a tree's name along a path, entry by entry
abbrev pub walked : List Record → Bytes → Path → Option (Leaf Bytes)
walked records name [] = Some (Dir, name)
walked records name (c ∷ p) = walked_from (entry_at (entries_named records name) c) p (λ below. walked records below p)

module _ (name : Kind → Bytes → Bytes) where
  -- a file, or else a sub-map that isn't empty
  abbrev pub place_of : Option (Leaf Bytes) → FileMap Bytes → Option (Leaf Bytes)
  place_of (Some leaf) below = Some (leaf.0, content_name name leaf.0 leaf.1)
  place_of None [] = None
  place_of None (e ∷ es) = Some (Dir, tree_name name (e ∷ es))

  -- the file at a path of a file map, or its sub-map there where that isn't empty, or the whole map at the root
  abbrev pub place_in : FileMap Bytes → Path → Option (Leaf Bytes)
  place_in files [] = Some (Dir, tree_name name files)
  place_in files (c ∷ p) = place_of (file_at files (c ∷ p)) (sub_map files (c ∷ p))

  -- the entry at a component of a file map
  abbrev pub entry_for : Bytes → Option (Leaf Bytes) → Option Entry
  entry_for component None = None
  entry_for component (Some place) = Some (record { mode = place.0; component = component; name = place.1 })
