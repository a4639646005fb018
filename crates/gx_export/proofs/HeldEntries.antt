-- The entries of a held tree, by its map of names.
use Rattle.std.proofs.Common.{◌≡◌, ℕ, zero, suc, List, [], ◌∷◌, map, Some, IsTrue, refl, sym, ap, subst}
use Rattle.std.specs.List.{flat_map, AllByRecursion}
use Rattle.std.specs.Option.{option_map}
use Rattle.std.proofs.lemmas.List.{map-append}
use Rattle.gx_model.specs.declared.objects.Kind.{Kind}
use Rattle.gx_model.specs.declared.objects.Kind.TheVariants as kind
use Rattle.gx_model.specs.Texts.{Bytes}
use Rattle.gx_model.specs.Histories.Files.{FileMap, depth}
use Rattle.gx_model.specs.Histories.Values.{sub_maps}
use Rattle.gx_model.specs.Histories.{Record, object_of}
use Rattle.gx_model.specs.Objects.{IsNamer}
use Rattle.gx_model.specs.Objects.NameMaps.{IsHeldTree}
use Rattle.gx_model.specs.Records.{tree_body}
use Rattle.gx_model.specs.Records.Growth.{all_trees_to, record_named, tree_record}
use Rattle.gx_model.specs.Records.RecordFaults.{is_held, is_of_kind}
use Rattle.gx_model.specs.Records.Walks.{entries_named}
use Rattle.gx_model.proofs.ObjectTexts.OneTree.{all_right}
use Rattle.gx_tree.proofs.HeldLevels.{body_is}
use Rattle.gx_tree.proofs.LevelsOf.{level_of}
use Rattle.gx_tree.proofs.TreeRecords.{kept_entry}
use Rattle.gx_rev.proofs.PathSteps.{entries_got}

module _ (name : Kind → Bytes → Bytes) (rs : List Record) where
  last_held : (n : ℕ) (g : FileMap Bytes) → AllByRecursion (λ r. record_named rs r.name ≡ Some r) (map (tree_record name) (all_trees_to n g)) → record_named rs (tree_record name g).name ≡ Some (tree_record name g)
  last_held zero g h = h.0
  last_held (suc n) g h =
      let below = flat_map (all_trees_to n) (sub_maps g) in
      (all_right (λ r. record_named rs r.name ≡ Some r) (map (tree_record name) below) (tree_record name g ∷ []) (subst (AllByRecursion (λ r. record_named rs r.name ≡ Some r)) (map-append (tree_record name) below (g ∷ [])) h)).0

  own_record : (n : Bytes) (g : FileMap Bytes) → IsHeldTree name rs n g → record_named rs n ≡ Some (tree_record name g)
  own_record n g h = subst (λ m. record_named rs m ≡ Some (tree_record name g)) (sym h.named) (last_held (depth g) g h.held)

  -- what is held as a tree with its files is a tree
  pub is_tree : (n : Bytes) (g : FileMap Bytes) → IsHeldTree name rs n g → IsTrue (is_held rs kind.Tree n)
  is_tree n g h = subst (λ o. IsTrue (is_of_kind kind.Tree o)) (sym (own_record n g h)) refl

  -- its entries
  pub entries_are : IsNamer name → (n : Bytes) (g : FileMap Bytes) → IsHeldTree name rs n g → entries_named rs n ≡ map (kept_entry name) (level_of g)
  entries_are namer n g h = entries_got rs n kind.Tree (tree_body name g) (map (kept_entry name) (level_of g)) (sym (ap (option_map object_of) (own_record n g h))) (body_is name rs namer g h.map)
