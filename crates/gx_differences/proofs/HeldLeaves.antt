-- What the files at each path at which two trees differ are named by is held.
use Rattle.std.proofs.Common.{[], ◌∷◌, map, List, Option, Some, None, sym, subst}
use Rattle.std.specs.Prelude.{IfSome}
use Rattle.std.specs.List.{AllByRecursion}
use Rattle.std.specs.declared.cmp.Ordering.{Ordering}
use Rattle.std.specs.declared.cmp.Ordering.TheVariants.{Less, Equal, Greater}
use Rattle.gx_model.specs.declared.objects.Kind.{Kind}
use Rattle.gx_model.specs.Histories.Files.{FileMap, Leaf}
use Rattle.gx_model.specs.Histories.{Records}
use Rattle.gx_model.specs.Objects.{IsNamer}
use Rattle.gx_model.specs.Records.Sound.{IsSound}
use Rattle.gx_model.specs.Texts.{Bytes}
use Rattle.gx_model.specs.Texts.Paths.{Path}
use Rattle.gx_object.specs.declared.name.Name.{Name}
use Rattle.gx_tree.proofs.NamedFiles.{each-filter}
use Rattle.gx_export.specs.Compared.{IsTreeIf}
use Rattle.gx_export.specs.Pairs.{side_by_side, with_old}
use Rattle.gx_differences.specs.Differences.{IsHeldFile, names_if}
use Rattle.gx_differences.specs.Listed.{AreListed, HasLeaves, HaveLeaves, all_standing, by_path, differing, differs, standing}
use Rattle.gx_differences.specs.declared.listed.Difference.{Difference}
use Rattle.gx_differences.proofs.Roots.{files_held}

module _ (r : Records) where
  abbrev AreHeld : FileMap Bytes → Type 0
  AreHeld files = AllByRecursion (IsHeldFile r) files

  abbrev HavePairs : List (FileMap Bytes × FileMap Bytes) → Type 0
  HavePairs pairs = AllByRecursion (λ p. HasLeaves (standing p) r) pairs

  news_held : (ds : FileMap Bytes) → AreHeld ds → HavePairs (map (λ d. ([], d ∷ [])) ds)
  news_held [] k = tt
  news_held (d ∷ ds) k = ((tt, (k.0.file, k.0.held)), news_held ds k.1)

  old_held : (e : Path × Leaf Bytes) → IsHeldFile r e → (others : FileMap Bytes → List (FileMap Bytes × FileMap Bytes)) → ((ds : FileMap Bytes) → AreHeld ds → HavePairs (others ds))
      → (ds : FileMap Bytes) → AreHeld ds → HavePairs (with_old by_path e others ds)
  old_held e h others have [] k = (((h.file, h.held), tt), have [] tt)
  old_held e h others have (d ∷ ds) k = by (old_held e h others have ds k.1) (by_path e d)
    where
      by : HavePairs (with_old by_path e others ds) → (o : Ordering)
          → HavePairs (elim o [ Less ↦ (e ∷ [], []) ∷ others (d ∷ ds) | Equal ↦ (e ∷ [], d ∷ []) ∷ others ds | Greater ↦ ([], d ∷ []) ∷ with_old by_path e others ds ])
      by rest Less = (((h.file, h.held), tt), have (d ∷ ds) k)
      by rest Equal = (((h.file, h.held), (k.0.file, k.0.held)), have ds k.1)
      by rest Greater = ((tt, (k.0.file, k.0.held)), rest)

  sides_held : (es ds : FileMap Bytes) → AreHeld es → AreHeld ds → HavePairs (side_by_side by_path es ds)
  sides_held [] ds h k = news_held ds k
  sides_held (e ∷ es) ds h k = old_held e h.0 (side_by_side by_path es) (λ fs l. sides_held es fs h.1 l) ds k

  standing_held : (ps : List (FileMap Bytes × FileMap Bytes)) → HavePairs ps → AllByRecursion (λ s. HasLeaves s r) (map standing ps)
  standing_held [] h = tt
  standing_held (p ∷ ps) h = (h.0, standing_held ps h.1)

  leaves_held : (old new : FileMap Bytes) → AreHeld old → AreHeld new → AllByRecursion (λ s. HasLeaves s r) (differing old new)
  leaves_held old new h k = each-filter (λ s. HasLeaves s r) differs (all_standing old new) (standing_held (side_by_side by_path old new) (sides_held old new h k))

module _ (name : Kind → Bytes → Bytes) (namer : IsNamer name) (told : Option Records) (old new : Option Name) where
  -- so it is of all that is listed
  pub leaves_listed : {A : Type 0} (found : List (Difference A)) → IfSome told (IsSound name) → IfSome told (λ r. IsTreeIf r old) → IfSome told (λ r. IsTreeIf r new) → IfSome told (λ r. AreListed name old new r found) → IfSome told (HaveLeaves found)
  leaves_listed found = by told
    where
      by : (told : Option Records) → IfSome told (IsSound name) → IfSome told (λ r. IsTreeIf r old) → IfSome told (λ r. IsTreeIf r new) → IfSome told (λ r. AreListed name old new r found) → IfSome told (HaveLeaves found)
      by None s o n l = tt
      by (Some r) s o n l =
          subst (AllByRecursion (λ d. HasLeaves d r)) (sym l)
          (leaves_held r (names_if name r old) (names_if name r new) (files_held name namer r s old o) (files_held name namer r s new n))
