-- Every path at which the files of two trees differ, in byte order, with what stood there and what stands there.
-- Source: git-diff-tree(1), `-r`, and "RAW OUTPUT FORMAT".
use Rattle.std.specs.Prelude.{◌≡◌, ◌≢◌, ◌++◌, ℕ, [], ◌∷◌, Bool, false, not, List, map, Option, Some, None, ⊤}
use Rattle.std.specs.List.{AllByRecursion, filter}
use Rattle.std.specs.declared.cmp.Ordering.{Ordering}
use Rattle.gx_model.specs.declared.objects.Kind.{Kind}
use Rattle.gx_model.specs.declared.objects.Mode.TheVariants.{Dir}
use Rattle.gx_model.specs.Changes.{is_this_leaf}
use Rattle.gx_model.specs.Histories.Files.{FileMap, Leaf}
use Rattle.gx_model.specs.Histories.{Records}
use Rattle.gx_model.specs.Records.Sound.{IsHeldAs}
use Rattle.gx_model.specs.Texts.{Bytes}
use Rattle.gx_model.specs.Texts.Paths.{Path, path_cmp}
use Rattle.gx_object.specs.declared.entry.Entry.{Entry}
use Rattle.gx_object.specs.declared.name.Name.{Name}
use Rattle.gx_export.specs.Compared.{IsBelowIf, IsPairBelow}
use Rattle.gx_export.specs.Pairs.{side_by_side}
use Rattle.gx_export.specs.declared.pairs.Pair.{Pair}
use Rattle.gx_tree.specs.Nodes.{Level, files}
use Rattle.gx_differences.specs.Differences.{names_if}
use Rattle.gx_differences.specs.declared.listed.Difference.{Difference}
use Rattle.gx_differences.specs.declared.listed.FileLeaf.{FileLeaf}

-- ---- what two file maps have at one path

-- a path, what the old map has there, and what the new one has
abbrev pub Standing : Type 0
Standing = Path × (Option (Leaf Bytes) × Option (Leaf Bytes))

-- the order of two files: that of their paths
abbrev pub by_path : Path × Leaf Bytes → Path × Leaf Bytes → Ordering
by_path e d = path_cmp e.0 d.0

-- what stands at the path of a file that may be there
abbrev pub leaf_in : FileMap Bytes → Option (Leaf Bytes)
leaf_in [] = None
leaf_in (e ∷ es) = Some e.1

-- the path of the old file, or else of the new one
abbrev pub path_in : FileMap Bytes → FileMap Bytes → Path
path_in (e ∷ es) ds = e.0
path_in [] (d ∷ ds) = d.0
path_in [] [] = []

-- a file of either map, or both files at one path
abbrev pub standing : FileMap Bytes × FileMap Bytes → Standing
standing p = (path_in p.0 p.1, (leaf_in p.0, leaf_in p.1))

-- what two maps have at each path of either, in byte order
abbrev pub all_standing : FileMap Bytes → FileMap Bytes → List Standing
all_standing old new = map standing (side_by_side by_path old new)

-- ---- what differs

-- whether the old file stands there still, with its mode and its content
abbrev pub stays : Option (Leaf Bytes) → Option (Leaf Bytes) → Bool
stays old None = false
stays old (Some new) = is_this_leaf old new

abbrev pub differs : Standing → Bool
differs s = not (stays s.1.0 s.1.1)

-- what two maps have at the paths at which they differ, in byte order
abbrev pub differing : FileMap Bytes → FileMap Bytes → List Standing
differing old new = filter differs (all_standing old new)

-- the same below a path
abbrev pub standing_below : Path → List Standing → List Standing
standing_below front ss = map (λ s. (front ++ s.0, s.1)) ss

-- ---- what is found of it

-- a file that may be there, as its mode and the name of what it holds
abbrev pub shown_leaf : Option FileLeaf → Option (Leaf Bytes)
shown_leaf None = None
shown_leaf (Some leaf) = Some (leaf.mode, leaf.name.bytes)

-- an entry that may be there, likewise
abbrev pub entry_leaf : Option Entry → Option (Leaf Bytes)
entry_leaf None = None
entry_leaf (Some e) = Some (e.mode, e.name.bytes)

abbrev pub shown_difference : {A : Type 0} → Difference A → Standing
shown_difference d = (d.path, (shown_leaf d.old, shown_leaf d.new))

abbrev pub shown_differences : {A : Type 0} → List (Difference A) → List Standing
shown_differences found = map shown_difference found

-- these are all that differs between two trees that may be there, by the names of what their files hold
abbrev pub AreListed : {A : Type 0} → (Kind → Bytes → Bytes) → Option Name → Option Name → Records → List (Difference A) → Type 0
AreListed name old new repository found =
    shown_differences found ≡ differing (names_if name repository old) (names_if name repository new)

-- what a file names is held, and it is no directory, where one is there
abbrev pub HasLeaf : Option (Leaf Bytes) → Records → Type 0
HasLeaf None repository = ⊤
HasLeaf (Some leaf) repository = (leaf.0 ≢ Dir) × IsHeldAs repository.records leaf.0 leaf.1

-- so it is of both files at a path
abbrev pub HasLeaves : Standing → Records → Type 0
HasLeaves s repository = HasLeaf s.1.0 repository × HasLeaf s.1.1 repository

-- and of all that is found
abbrev pub HaveLeaves : {A : Type 0} → List (Difference A) → Records → Type 0
HaveLeaves found repository = AllByRecursion (λ s. HasLeaves s repository) (shown_differences found)

-- these stand behind those that were found before
abbrev pub Adds : {A : Type 0} → List Standing → List (Difference A) → List (Difference A) → Type 0
Adds more before after = shown_differences after ≡ shown_differences before ++ more

module _ (name : Kind → Bytes → Bytes) where
  -- what differs between the files of two trees is added
  abbrev pub ListsTrees : {A : Type 0} → ℕ → Path → Option Bytes → Option Bytes → List (Difference A) → List (Difference A) → Records → Type 0
  ListsTrees room front old new before after repository =
      (f g : FileMap Bytes) → IsBelowIf name repository room front old f → IsBelowIf name repository room front new g
      → Adds (standing_below front (differing f g)) before after

  -- and so at one component
  abbrev pub ListsPair : {A : Type 0} → ℕ → Path → Pair → List (Difference A) → List (Difference A) → Records → Type 0
  ListsPair room front pair before after repository =
      (p : Level × Level) → IsPairBelow name repository room front pair p
      → Adds (standing_below front (differing (files p.0) (files p.1))) before after
