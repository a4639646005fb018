-- An edit of the names at hand is that of the files that they stand for, and is refused as that is.
use Rattle.std.proofs.Common.{◌≡◌, Bool, true, false, cond, List, [], Some, None, Result, Ok, Err, refl, sym, ap, subst, ◌∙◌}
use Rattle.std.specs.Bool.{passes}
use Rattle.gx_model.specs.declared.objects.Kind.{Kind}
use Rattle.gx_model.specs.declared.objects.Mode.{Mode}
use Rattle.gx_model.specs.declared.faults.Fault.{Fault}
use Rattle.gx_model.specs.declared.faults.Fault.TheVariants as fault
use Rattle.gx_model.specs.Texts.{Bytes}
use Rattle.gx_model.specs.Faults.{IsFaultOf, unless, ◌>>=◌}
use Rattle.gx_model.specs.Texts.Paths.{Path}
use Rattle.gx_model.specs.Histories.Files.{FileMap, Leaf}
use Rattle.gx_model.specs.Histories.Edits.{copied, modified, removed, renamed}
use Rattle.gx_model.specs.Records.{content_name, named_map}
use Rattle.gx_model.specs.Histories.{Records}
use Rattle.gx_model.specs.Streams.Commands.{DataRef, Modify}
use Rattle.gx_model.specs.Replay.{State, changed, content}
use Rattle.gx_object.specs.declared.name.Name.{Name}
use Rattle.gx_tree.specs.Faults as tree_faults
use Rattle.gx_model.specs.Objects.NameMaps.{AreFiles, IsNameMap}
use Rattle.gx_tree.specs.declared.fault.TreeFault.{TreeFault}
use Rattle.gx_tree.specs.declared.fault.TreeFault.TheVariants as tree
use Rattle.gx_import.specs.declared.tables.Tables.{Tables}
use Rattle.gx_import.specs.Answers.{AddsAs}
use Rattle.gx_tree.specs.Faults.{fault_of as of_tree}
use Rattle.gx_import.specs.Standing.{Follows, IsContentName, Stands}
use Rattle.gx_import.proofs.Clashes.{content_keeps, content_state, with_content}
use Rattle.gx_import.proofs.KeptFiles.{AllLeaves, IsKnownLeaf, files_leaves, files_named, leaves_later, modified_leaves, removed_leaves}
use Rattle.gx_import.proofs.NamedEdits.{copied_leafed, modified_leafed, removed_leafed, renamed_leafed}

-- ---- a removal isn't refused, and keeps the leaves

pub removed_kept : {X : Type 0} (P : X → Type 0) (f : List (Path × X)) (p : Path) (g : List (Path × X)) → ◌≡◌ {A = Result (List (Path × X)) Fault} (Ok (removed f p)) (Ok g) → AllLeaves P f → AllLeaves P g
removed_kept P f p g e h = let same : removed f p ≡ g = cc e in subst (AllLeaves P) same (removed_leaves P f p h)

pub cleared_kept : {X : Type 0} (P : X → Type 0) (f g : List (Path × X)) → ◌≡◌ {A = Result (List (Path × X)) Fault} (Ok []) (Ok g) → AllLeaves P f → AllLeaves P g
cleared_kept P f g e h = let same : [] ≡ g = cc e in subst (AllLeaves P) same tt

-- ---- no copy and no rename is refused because a name is held

tests_free : {X : Type 0} (a b c : Bool) (g : List (Path × X)) → unless (cond a (Some fault.NoSuchPath) (cond b (Some fault.RootNotTree) (cond c None (Some fault.PathTooLong)))) g ≡ Err fault.NameHeld → ⊥
tests_free true b c g h = cc h
tests_free false true c g h = cc h
tests_free false false true g h = cc h
tests_free false false false g h = cc h

pub copied_free : {X : Type 0} (f : List (Path × X)) (s d : Path) → copied f s d ≡ Err fault.NameHeld → ⊥
copied_free f s d h = tests_free _ _ _ _ h

pub renamed_free : {X : Type 0} (f : List (Path × X)) (s d : Path) → renamed f s d ≡ Err fault.NameHeld → ⊥
renamed_free f s d h = tests_free _ _ _ _ h

fault_kept : {X Y Z : Type 0} (given : Result X Fault) (u : X → Y) (v : X → Z) (e : Fault) → (given >>= λ x. Ok (u x)) ≡ Err e → (given >>= λ x. Ok (v x)) ≡ Err e
fault_kept (Ok x) u v e h = absurd (cc h)
fault_kept (Err d) u v e h = let same : d ≡ e = cc h in ap Err same

fault_first : {X Y : Type 0} (given : Result X Fault) (u : X → Y) (e : Fault) → (given >>= λ x. Ok (u x)) ≡ Err e → given ≡ Err e
fault_first (Ok x) u e h = absurd (cc h)
fault_first (Err d) u e h = let same : d ≡ e = cc h in ap Err same

module _ (name : Kind → Bytes → Bytes) where
  named_done : (given : Result (FileMap Bytes) Fault) (now : FileMap Bytes) → (given >>= λ z. Ok (named_map name z)) ≡ Ok now → (g : FileMap Bytes) × (given ≡ Ok g) × (named_map name g ≡ now)
  named_done (Ok g) now h = (g, refl, cc h)
  named_done (Err e) now h = absurd (cc h)

  -- an edit that is refused
  pub edit_refused : {X : Type 0} (clash : Type 0) (Is : State × FileMap Bytes → X → Type 0) (e : TreeFault) (given : Result (FileMap Bytes) Fault) (s : State) → (given ≡ Err fault.NameHeld → ⊥)
      → IsFaultOf (tree_faults.fault_of e) (given >>= λ z. Ok (named_map name z)) → AddsAs clash Is (Err (of_tree e)) (given >>= λ g. Ok (s, g))
  edit_refused clash Is tree.OutOfMemory given s n h = tt
  edit_refused clash Is tree.NoSuchPath given s n h = fault_kept given (named_map name) (λ g. (s, g)) fault.NoSuchPath h
  edit_refused clash Is tree.RootNotTree given s n h = fault_kept given (named_map name) (λ g. (s, g)) fault.RootNotTree h
  edit_refused clash Is tree.PathTooLong given s n h = fault_kept given (named_map name) (λ g. (s, g)) fault.PathTooLong h
  edit_refused clash Is tree.NameHeld given s n h = absurd (n (fault_first given (named_map name) fault.NameHeld h))

  -- the names at hand, edited
  modified_names : (f names : FileMap Bytes) (p : Path) (m : Mode) (x n : Bytes) → names ≡ named_map name f → n ≡ content_name name m x → modified names p (m, n) ≡ (modified f p (m, x) >>= λ z. Ok (named_map name z))
  modified_names f names p m x n e k =
      (λ i. modified (e i) p (m, k i)) ∙ modified_leafed (λ (leaf : Leaf Bytes). let named : Leaf Bytes = (leaf.0, content_name name leaf.0 leaf.1) in named) f p (m, x)

  pub copied_names : (f names : FileMap Bytes) (p q : Path) → names ≡ named_map name f → copied names p q ≡ (copied f p q >>= λ z. Ok (named_map name z))
  copied_names f names p q e = ap (λ z. copied z p q) e ∙ copied_leafed (λ (leaf : Leaf Bytes). let named : Leaf Bytes = (leaf.0, content_name name leaf.0 leaf.1) in named) f p q

  pub renamed_names : (f names : FileMap Bytes) (p q : Path) → names ≡ named_map name f → renamed names p q ≡ (renamed f p q >>= λ z. Ok (named_map name z))
  renamed_names f names p q e = ap (λ z. renamed z p q) e ∙ renamed_leafed (λ (leaf : Leaf Bytes). let named : Leaf Bytes = (leaf.0, content_name name leaf.0 leaf.1) in named) f p q

  pub removed_names : (f names : FileMap Bytes) (p : Path) → names ≡ named_map name f → ◌≡◌ {A = Result (FileMap Bytes) Fault} (Ok (removed names p)) (Ok (named_map name (removed f p)))
  removed_names f names p e = ap Ok (ap (λ z. removed z p) e ∙ removed_leafed (λ (leaf : Leaf Bytes). let named : Leaf Bytes = (leaf.0, content_name name leaf.0 leaf.1) in named) f p)

  -- the files that an edit gives
  edited : (s : State) (f names : FileMap Bytes) → AreFiles name s.history.values f names → (given : Result (FileMap Bytes) Fault)
      → ((g : FileMap Bytes) → given ≡ Ok g → AllLeaves (IsKnownLeaf s.history.values) f → AllLeaves (IsKnownLeaf s.history.values) g)
      → (now : FileMap Bytes) → (given >>= λ z. Ok (named_map name z)) ≡ Ok now → IsNameMap now → (g : FileMap Bytes) × (given ≡ Ok g) × AreFiles name s.history.values g now
  edited s f names h given keep now e m =
      let g = named_done given now e in
      (g.0, g.1, files_named name s.history.values g.0 now g.2 m (keep g.0 g.1 (files_leaves name s.history.values f names h)))

  module _ {A : Type 0} (r : Records) (tables : Tables A) where
    -- what a change that makes this edit gives
    pub edit_done : (s : State) → Stands name r tables s → (f names : FileMap Bytes) → AreFiles name s.history.values f names → (given : Result (FileMap Bytes) Fault)
        → ((g : FileMap Bytes) → given ≡ Ok g → AllLeaves (IsKnownLeaf s.history.values) f → AllLeaves (IsKnownLeaf s.history.values) g)
        → (now : FileMap Bytes) → (given >>= λ z. Ok (named_map name z)) ≡ Ok now → IsNameMap now
        → (x : State × FileMap Bytes) × ((given >>= λ g. Ok (s, g)) ≡ Ok x) × (Follows name r tables s x.0 × AreFiles name x.0.history.values x.1 now)
    edit_done s h f names are given keep now e m =
        let g = edited s f names are given keep now e m in
        ((s, g.0), ap (λ z. z >>= λ g. Ok (s, g)) g.1, (record { stands = h; progress = refl; held = refl }, g.2))

    -- a file that is set
    pub modify_done : (s : State) (f names : FileMap Bytes) → AreFiles name s.history.values f names → (m : Mode) (d : DataRef) (p : Path) (n : Name) (y : State × Bytes) → content name s m d ≡ Ok y
        → Follows name r tables s y.0 → IsContentName name y.0 y m n → (now : FileMap Bytes) → modified names p (m, n.bytes) ≡ Ok now → IsNameMap now
        → (x : State × FileMap Bytes) × (changed name s f (Modify m d p) ≡ Ok x) × (Follows name r tables s x.0 × AreFiles name x.0.history.values x.1 now)
    modify_done s f names are m d p n y given follows is now e map =
        let g = named_done (modified f p (m, y.1)) now (sym (modified_names f names p m y.1 n.bytes are.named is.named) ∙ e) in
        let old = files_leaves name s.history.values f names are in
        let state = content_state name s m d y given in
        let later = subst (λ (z : State). AllLeaves (IsKnownLeaf z.history.values) f) (sym state) (leaves_later s.history.values (with_content d s).history.values (content_keeps d s) f old) in
        let leaves = modified_leaves (IsKnownLeaf y.0.history.values) f p (m, y.1) g.0 g.1 (passes _ is.leaf, is.known) later in (
          (y.0, g.0),
          ap (λ z. z >>= λ r. modified f p (m, r.1) >>= λ g. Ok (r.0, g)) given ∙ ap (λ z. z >>= λ g. Ok (y.0, g)) g.1,
          (follows, files_named name y.0.history.values g.0 now g.2 map leaves),
        )
