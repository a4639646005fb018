-- The files of held trees, by the names of what they hold, and what differs between them.
use Rattle.std.proofs.Common.{◌≡◌, ◌≢◌, ◌∙◌, [], ◌∷◌, ◌++◌, map, Option, Some, None, refl, sym, ap, subst}
use Rattle.std.specs.Prelude.{IfSome}
use Rattle.std.specs.List.{AllByRecursion}
use Rattle.gx_model.specs.declared.objects.Kind.{Kind}
use Rattle.gx_model.specs.declared.objects.Kind.TheVariants as kind
use Rattle.gx_model.specs.declared.objects.Mode.TheVariants.{Dir}
use Rattle.gx_model.specs.Changes.{changed_files, gone_paths}
use Rattle.gx_model.specs.Histories.Files.{FileMap}
use Rattle.gx_model.specs.Histories.Values.{blobs_of, sub_maps, tree_value}
use Rattle.gx_model.specs.Histories.{IsIn, Records}
use Rattle.gx_model.specs.Objects.{IsNamer}
use Rattle.gx_model.specs.Objects.NameMaps.{AreFiles, IsHeldTree}
use Rattle.gx_model.specs.Records.{name_of, named_map}
use Rattle.gx_model.specs.Records.HistoryOf.{history_of}
use Rattle.gx_model.specs.Records.Sound.{IsHeldAs, IsSound}
use Rattle.gx_model.specs.Texts.{Bytes}
use Rattle.gx_model.specs.Texts.Paths.{Path}
use Rattle.gx_model.proofs.ObjectTexts.OneTree.{all_left}
use Rattle.gx_model.proofs.Records.FilesByName.{files_named}
use Rattle.gx_model.proofs.Records.HeldTrees.{tree_is_held}
use Rattle.gx_model.proofs.Records.HeldValues.{all_whole, held_is, kind_held, tree_stands}
use Rattle.gx_model.proofs.Records.LinkedValues.{parts_in, proper_in}
use Rattle.gx_model.proofs.Texts.PathTests.{is_true}
use Rattle.std.specs.Bool.{passes}
use Rattle.gx_object.specs.declared.name.Name.{Name}
use Rattle.gx_object.specs.Parts.{bytes_if}
use Rattle.gx_rev.specs.Objects.{files_at}
use Rattle.gx_tree.specs.Lists.{below}
use Rattle.gx_tree.proofs.Listed.{below_root}
use Rattle.gx_tree.proofs.NamedFiles.{each-filter}
use Rattle.gx_export.specs.Compared.{IsBelowIf, IsTreeIf, paths_below}
use Rattle.gx_export.specs.FileTexts.{IsTreeBelow}
use Rattle.gx_export.proofs.Gathering.{whole_tree}
use Rattle.gx_export.proofs.NamedChanges.{paths_root}
use Rattle.gx_differences.specs.Differences.{AreDifferences, AreTrees, ComparesTrees, HaveFiles, IsHeldFile, names_if, shown_files}
use Rattle.gx_differences.specs.declared.differences.Differences.{Differences}

module _ (name : Kind → Bytes → Bytes) (namer : IsNamer name) (r : Records) (sound : IsSound name r) where
  tree_files : (f : FileMap Bytes) → IsIn (history_of r).values (tree_value f) → AreFiles name (history_of r).values f (named_map name f)
  tree_files f i =
      let vs = (history_of r).values in
      let w = all_whole name namer r sound in
      record {
        named = refl;
        content = is_true _ (proper_in vs (tree_value f) (passes _ w.proper) i);
        known = all_left (IsIn vs) (blobs_of f) (map tree_value (sub_maps f)) (parts_in vs (tree_value f) w i);
      }

  -- a held tree with its files
  root_held : (t : Name) → IsTreeIf r (Some t) → IsTreeBelow name r 4095 [] t.bytes (named_map name (files_at r t))
  root_held t h =
      let f = files_at r t in
      let s = tree_stands name namer r sound t.bytes h in
      let v = held_is name namer r sound t.bytes (kind_held name namer r sound kind.Tree t.bytes h).0 in
      let called : name_of name (tree_value f) ≡ t.bytes = ap (name_of name) (sym s.0) ∙ v.named in
      let held = subst (λ m. IsHeldTree name r.records m (named_map name f)) called (tree_is_held name namer r sound f s.1) in
      whole_tree name r t.bytes (named_map name f) held (files_named name namer r sound f (named_map name f) (tree_files f s.1)).held

  pub root_if : (t : Option Name) → IsTreeIf r t → IsBelowIf name r 4095 [] (bytes_if t) (names_if name r t)
  root_if None h = refl
  root_if (Some t) h = root_held t h

  -- what its files name is held
  pub files_held : (t : Option Name) → IsTreeIf r t → AllByRecursion (IsHeldFile r) (names_if name r t)
  files_held None h = tt
  files_held (Some t) h =
      let f = files_at r t in
      let m = files_named name namer r sound f (named_map name f) (tree_files f (tree_stands name namer r sound t.bytes h).1) in
      by (named_map name f) m.files m.held
    where
      by : (es : FileMap Bytes) → AllByRecursion (λ e. e.1.0 ≢ Dir) es → AllByRecursion (λ e. IsHeldAs r.records e.1.0 e.1.1) es → AllByRecursion (IsHeldFile r) es
      by [] h k = tt
      by (e ∷ es) h k = (record { file = h.0; held = k.0 }, by es h.1 k.1)

module _ (name : Kind → Bytes → Bytes) (namer : IsNamer name) (told : Option Records) (old new : Option Name) (front : Path) (root : front ≡ []) where
  pub roots_told : IfSome told (IsSound name) → IfSome told (λ r. IsTreeIf r old) → IfSome told (λ r. IsTreeIf r new) → IfSome told (AreTrees name 4095 front (bytes_if old) (bytes_if new))
  roots_told = by told
    where
      by : (told : Option Records) → IfSome told (IsSound name) → IfSome told (λ r. IsTreeIf r old) → IfSome told (λ r. IsTreeIf r new) → IfSome told (AreTrees name 4095 front (bytes_if old) (bytes_if new))
      by None s o n = tt
      by (Some r) s o n = (
        names_if name r old,
        (
          names_if name r new,
          record {
            olds = subst (λ p. IsBelowIf name r 4095 p (bytes_if old) (names_if name r old)) (sym root) (root_if name namer r s old o);
            news = subst (λ p. IsBelowIf name r 4095 p (bytes_if new) (names_if name r new)) (sym root) (root_if name namer r s new n);
            some = λ z. absurd (z root);
          },
        ),
      )

  -- behind nothing
  pub roots_differ : {A : Type 0} (before after : Differences A) → before.gone.items ≡ [] → before.files.items ≡ [] → IfSome told (IsSound name) → IfSome told (λ r. IsTreeIf r old) → IfSome told (λ r. IsTreeIf r new)
      → IfSome told (ComparesTrees name 4095 front (bytes_if old) (bytes_if new) before after) → IfSome told (λ r. AreDifferences name old new r after)
  roots_differ before after g h = by told
    where
      by : (told : Option Records) → IfSome told (IsSound name) → IfSome told (λ r. IsTreeIf r old) → IfSome told (λ r. IsTreeIf r new)
          → IfSome told (ComparesTrees name 4095 front (bytes_if old) (bytes_if new) before after) → IfSome told (λ r. AreDifferences name old new r after)
      by None s o n c = tt
      by (Some r) s o n c =
          let f = names_if name r old in
          let k = names_if name r new in
          let a = c f k (subst (λ p. IsBelowIf name r 4095 p (bytes_if old) f) (sym root) (root_if name namer r s old o)) (subst (λ p. IsBelowIf name r 4095 p (bytes_if new) k) (sym root) (root_if name namer r s new n)) in
          record {
            gone = a.paths ∙ ap (λ t. t ++ paths_below front (gone_paths f k)) g ∙ ap (λ p. paths_below p (gone_paths f k)) root ∙ paths_root (gone_paths f k);
            changed = a.files ∙ ap (λ t. shown_files t ++ below front (changed_files f k)) h ∙ ap (λ p. below p (changed_files f k)) root ∙ below_root (changed_files f k);
          }

  pub roots_held : {A : Type 0} (found : Differences A) → IfSome told (IsSound name) → IfSome told (λ r. IsTreeIf r new) → IfSome told (λ r. AreDifferences name old new r found) → IfSome told (HaveFiles found.files.items)
  roots_held found = by told
    where
      by : (told : Option Records) → IfSome told (IsSound name) → IfSome told (λ r. IsTreeIf r new) → IfSome told (λ r. AreDifferences name old new r found) → IfSome told (HaveFiles found.files.items)
      by None s n d = tt
      by (Some r) s n d = subst (AllByRecursion (IsHeldFile r)) (sym d.changed) (each-filter (IsHeldFile r) _ (names_if name r new) (files_held name namer r s new n))
