-- The name of a held tree tells its files.
use Rattle.std.proofs.Common.{◌≡◌, ℕ, ◌-◌, ◌<◌, zero, suc, true, List, [], ◌∷◌, map, length, Some, refl, sym, ap, ◌∙◌, subst, arith}
use Rattle.std.specs.Prelude.{T}
use Rattle.std.specs.List.{list_all, AllByRecursion}
use Rattle.std.proofs.lemmas.Bool.{and_parts}
use Rattle.gx_model.specs.declared.objects.Kind.{Kind}
use Rattle.gx_model.specs.Texts.{Bytes}
use Rattle.gx_model.specs.Histories.Files.{FileMap}
use Rattle.gx_model.specs.Histories.{Record}
use Rattle.gx_model.specs.Objects.{IsNamer, is_name}
use Rattle.gx_model.specs.Objects.NameMaps.{IsHeldTree}
use Rattle.gx_model.specs.Records.Growth.{tree_record}
use Rattle.gx_model.proofs.ObjectTexts.BodiesReadBack.{long_name}
use Rattle.gx_model.proofs.ObjectTexts.EntryTexts.{AreNamed, one_tree_text}
use Rattle.gx_model.proofs.Histories.FileMapEdits.{parts_of}
use Rattle.gx_tree.specs.HeldTrees.{IsHeldEntry, IsHeldWithin}
use Rattle.gx_tree.specs.Nodes.{IsLevel, Kept, Level, file, files, folder}
use Rattle.gx_tree.specs.Writes.{kept_leaf, map_name}
use Rattle.gx_tree.proofs.HeldLevels.{body_is, entries_held, own_record, within_all}
use Rattle.gx_tree.proofs.LevelsOf.{IsLevel-level_of, files-level_of, level_of}
use Rattle.gx_tree.proofs.TreeRecords.{kept_entry}

module _ (name : Kind → Bytes → Bytes) (rs : List Record) (namer : IsNamer name) where
  are_named : (es : Level) → IsLevel es → list_all (λ e. is_name e.name) (map (kept_entry name) es) ≡ true → AreNamed 20 (map (kept_entry name) es)
  are_named [] l n = tt
  are_named (e ∷ es) l n =
      let p = and_parts (is_name (kept_leaf name e.1).1) _ n in
      ((subst T (sym l.0) tt, long_name _ (subst T (sym p.0) tt)), are_named es l.3 p.1)

  -- a name tells the files, where their paths have at most so many bytes
  abbrev Tells : ℕ → Type 0
  Tells room = (n : Bytes) (f g : FileMap Bytes) → IsHeldWithin name rs room n f → IsHeldWithin name rs room n g → f ≡ g

  abbrev TellsBelow : ℕ → Type 0
  TellsBelow room = (less : ℕ) → less < room → Tells less

  one_kept : (room : ℕ) → TellsBelow room → (c : Bytes) (k l : Kept) → IsHeldEntry name rs room (c, k) → IsHeldEntry name rs room (c, l) → kept_leaf name k ≡ kept_leaf name l → k ≡ l
  one_kept room ih c (file x) (file y) h j e = ap file e
  one_kept room ih c (file x) (folder g) h j e = absurd (h (ap (λ z. z.0) e))
  one_kept room ih c (folder f) (file y) h j e = absurd (j (sym (ap (λ z. z.0) e)))
  one_kept room ih c (folder f) (folder g) h j e =
      ap folder (ih (room - length c - 1) (omega (arith, h.0)) (map_name name f) f g h.1 (subst (λ n. IsHeldWithin name rs (room - length c - 1) n g) (sym (ap (λ z. z.1) e)) j.1))

  one_level : (room : ℕ) → TellsBelow room → (es fs : Level) → AllByRecursion (IsHeldEntry name rs room) es → AllByRecursion (IsHeldEntry name rs room) fs → map (kept_entry name) es ≡ map (kept_entry name) fs → es ≡ fs
  one_level room ih [] [] h j e = refl
  one_level room ih [] (f ∷ fs) h j e = absurd (cc)
  one_level room ih (e ∷ es) [] h j q = absurd (cc)
  one_level room ih (e ∷ es) (f ∷ fs) h j q =
      let one : kept_entry name e ≡ kept_entry name f = cc in
      let more : map (kept_entry name) es ≡ map (kept_entry name) fs = cc in
      let c : e.0 ≡ f.0 = ap (λ x. x.component) one in
      let l : kept_leaf name e.1 ≡ kept_leaf name f.1 = λ i. ((one i).mode, (one i).name) in
      let k = one_kept room ih e.0 e.1 f.1 h.0 (subst (λ z. IsHeldEntry name rs room (z, f.1)) (sym c) j.0) l in
      let rest = one_level room ih es fs h.1 j.1 more in
      λ i. (c i, k i) ∷ rest i

  one_within : (room : ℕ) → TellsBelow room → Tells room
  one_within room ih n f g h j =
      let records : Some (tree_record name f) ≡ Some (tree_record name g) = sym (own_record name rs n f h.0) ∙ own_record name rs n g j.0 in
      let same : tree_record name f ≡ tree_record name g = cc in
      let bf = body_is name rs namer f h.0.map in
      let bg = body_is name rs namer g j.0.map in
      let rows = one_tree_text 20 (map (kept_entry name) (level_of f)) (map (kept_entry name) (level_of g))
      (are_named (level_of f) (IsLevel-level_of f h.0.map) bf.2) (are_named (level_of g) (IsLevel-level_of g j.0.map) bg.2)
      (sym bf.0 ∙ ap (λ r. r.body) same ∙ bg.0) in
      let levels = one_level room ih (level_of f) (level_of g) (entries_held name rs n f room h) (entries_held name rs n g room j) rows in
      sym (files-level_of f (parts_of f h.0.map.file_map)) ∙ ap files levels ∙ files-level_of g (parts_of g j.0.map.file_map)

  below : (most room : ℕ) → room < most → Tells room
  below zero room l = absurd (omega arith)
  below (suc most) room l = one_within room (λ less k. below most less (omega arith))

  pub one_map : (n : Bytes) (f g : FileMap Bytes) → IsHeldTree name rs n f → IsHeldTree name rs n g → f ≡ g
  one_map n f g h j = below 4096 4095 (omega arith) n f g (h, within_all f h.map) (j, within_all g j.map)
