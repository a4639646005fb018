-- The entries of two trees side by side.
use Rattle.std.specs.Prelude.{Bool, false, ◌&&◌, List, [], ◌∷◌, map, Option, Some, None}
use Rattle.std.specs.declared.cmp.Ordering.{Ordering}
use Rattle.std.specs.declared.cmp.Ordering.TheVariants.{Less, Equal, Greater}
use Rattle.std.specs.Ordering.{nat_cmp}
use Rattle.std.specs.Cmp.Lexicographic.{slice_cmp}
use Rattle.gx_model.specs.Histories.Values.{same_mode}
use Rattle.gx_model.specs.Objects.{Entry as TreeEntry, entry_key}
use Rattle.gx_model.specs.Texts.{Bytes, same_bytes}
use Rattle.gx_object.specs.declared.entry.Entry.{Entry}
use Rattle.gx_object.specs.Entries.{shown}
use Rattle.gx_export.specs.declared.pairs.Pair.{Pair}

-- ---- two ordered lists

module _ {X : Type 0} (order : X → X → Ordering) where
  -- an old one goes before or with one of the new ones, and then the other old ones with those that are left
  abbrev pub with_old : X → (List X → List (List X × List X)) → List X → List (List X × List X)
  with_old e others [] = (e ∷ [], []) ∷ others []
  with_old e others (d ∷ ds) = elim (order e d) [
    | Less ↦ (e ∷ [], []) ∷ others (d ∷ ds)
    | Equal ↦ (e ∷ [], d ∷ []) ∷ others ds
    | Greater ↦ ([], d ∷ []) ∷ with_old e others ds
  ]

  -- What two ordered lists have, in their order: one of the old list, or one of the new, or two that are as high.
  abbrev pub side_by_side : List X → List X → List (List X × List X)
  side_by_side [] ds = map (λ d. ([], d ∷ [])) ds
  side_by_side (e ∷ es) ds = with_old e (side_by_side es) ds

-- ---- entries

-- the order of the entries of a tree
abbrev pub entry_order : TreeEntry → TreeEntry → Ordering
entry_order e f = slice_cmp nat_cmp (entry_key e) (entry_key f)

-- which of two that may be there comes first
abbrev pub first_order : Option TreeEntry → Option TreeEntry → Option Ordering
first_order None None = None
first_order None (Some d) = Some Greater
first_order (Some e) None = Some Less
first_order (Some e) (Some d) = Some (entry_order e d)

-- an entry that may be there, as a list
abbrev pub shown_if : Option Entry → List TreeEntry
shown_if None = []
shown_if (Some e) = shown e ∷ []

abbrev pub shown_option : Option Entry → Option TreeEntry
shown_option None = None
shown_option (Some e) = Some (shown e)

abbrev pub shown_pair : Pair → List TreeEntry × List TreeEntry
shown_pair pair = (shown_if pair.old, shown_if pair.new)

-- the next entry, where there is one, and those behind it
abbrev pub left_from : Option Entry → List TreeEntry → List TreeEntry
left_from None es = []
left_from (Some e) es = shown e ∷ es

-- whether two entries name the same
abbrev pub names_same : TreeEntry → TreeEntry → Bool
names_same e d = same_mode e.mode d.mode && same_bytes e.name d.name

-- whether both are there and name the same
abbrev pub is_same : List TreeEntry × List TreeEntry → Bool
is_same (e ∷ es, d ∷ ds) = names_same e d
is_same _ = false

-- the name of an entry that may be there
abbrev pub name_if : Option Entry → Option Bytes
name_if None = None
name_if (Some e) = Some e.name.bytes
