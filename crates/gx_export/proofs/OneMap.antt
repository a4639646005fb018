-- A held tree has one map of names.
use Rattle.std.proofs.Common.{◌≡◌, ℕ, zero, suc, ◌-◌, ◌<◌, List, [], ◌∷◌, map, length, Option, Some, None, Bor, refl, sym, ap, subst, ◌∙◌, arith}
use Rattle.std.specs.List.{AllByRecursion}
use Rattle.std.specs.Option.{option_map}
use Rattle.gx_model.specs.declared.objects.Kind.{Kind}
use Rattle.gx_model.specs.Texts.{Bytes}
use Rattle.gx_model.specs.Histories.Files.{FileMap}
use Rattle.gx_model.specs.Records.Growth.{record_named}
use Rattle.gx_model.specs.Histories.{Record, object_of}
use Rattle.gx_model.specs.Objects.NameMaps.{IsHeldTree}
use Rattle.gx_model.specs.Objects.{IsNamer}
use Rattle.gx_model.proofs.ObjectTexts.BodiesReadBack.{entries_read}
use Rattle.gx_model.proofs.Histories.FileMapEdits.{parts_of}
use Rattle.gx_store.specs.Stores.{shown_object}
use Rattle.gx_tree.specs.HeldTrees.{IsHeldEntry, IsHeldWithin}
use Rattle.gx_tree.specs.Nodes.{Kept, Level, file, files, folder}
use Rattle.gx_tree.specs.Writes.{map_name}
use Rattle.gx_tree.proofs.HeldLevels.{entries_held, held_text, is_there, within_all}
use Rattle.gx_tree.proofs.LevelsOf.{files-level_of, level_of}
use Rattle.gx_tree.proofs.TreeRecords.{kept_entry}

module _ (name : Kind → Bytes → Bytes) (rs : List Record) (namer : IsNamer name) where
  -- maps of the same held tree, within so many bytes, are the same
  abbrev AreOne : ℕ → Type 0
  AreOne room = (n : Bytes) (f g : FileMap Bytes) → IsHeldWithin name rs room n f → IsHeldTree name rs n g → f ≡ g

  one_entry : (room : ℕ) → ((less : ℕ) → less < room → AreOne less) → (c d : Bytes) (k l : Kept) → IsHeldEntry name rs room (c, k) → IsHeldEntry name rs 4095 (d, l) → kept_entry name (c, k) ≡ kept_entry name (d, l) → (c ≡ d) × (k ≡ l)
  one_entry room ih c d (file x) (file y) h j e = (λ i. (e i).component, λ i. file ((e i).mode, (e i).name))
  one_entry room ih c d (file x) (folder g) h j e = absurd (h (ap (λ z. z.mode) e))
  one_entry room ih c d (folder f) (file y) h j e = absurd (j (sym (ap (λ z. z.mode) e)))
  one_entry room ih c d (folder f) (folder g) h j e =
      let less : room - length c - 1 < room = (let k = h.0 in omega (arith, k)) in
      let same = ih (room - length c - 1) less (map_name name f) f g h.1 (subst (λ m. IsHeldTree name rs m g) (sym (ap (λ z. z.name) e)) j.1.0) in
      (λ i. (e i).component, λ i. folder (same i))

  one_level : (room : ℕ) → ((less : ℕ) → less < room → AreOne less) → (es fs : Level) → AllByRecursion (IsHeldEntry name rs room) es → AllByRecursion (IsHeldEntry name rs 4095) fs → map (kept_entry name) es ≡ map (kept_entry name) fs → es ≡ fs
  one_level room ih [] [] h j e = refl
  one_level room ih [] (f ∷ fs) h j e = cc
  one_level room ih (e ∷ es) [] h j q = cc
  one_level room ih (e ∷ es) (f ∷ fs) h j q =
      let head : kept_entry name e ≡ kept_entry name f = cc in
      let tail : map (kept_entry name) es ≡ map (kept_entry name) fs = cc in
      let one = one_entry room ih e.0 f.0 e.1 f.1 h.0 j.0 head in
      let rest = one_level room ih es fs h.1 j.1 tail in
      λ i. (let z : Bytes × Kept = (one.0 i, one.1 i) in z) ∷ rest i

  same_entries : (n : Bytes) (f g : FileMap Bytes) → IsHeldTree name rs n f → IsHeldTree name rs n g → map (kept_entry name) (level_of f) ≡ map (kept_entry name) (level_of g)
  same_entries n f g h j = by (record_named rs n) refl
    where
      by : (o : Option Record) → record_named rs n ≡ o → map (kept_entry name) (level_of f) ≡ map (kept_entry name) (level_of g)
      by None e = absurd (is_there name rs n f None h refl (sym (ap (option_map object_of) e)))
      by (Some x) e =
          let b : Bor Bytes = record { ref_ptr = (0, 0); now = x.body } in
          let s : option_map shown_object (Some (x.kind, b)) ≡ option_map object_of (record_named rs n) = sym (ap (option_map object_of) e) in
          let one = entries_read (map (kept_entry name) (level_of f)) x.body (held_text name rs namer n f (Some (x.kind, b)) x.kind b h refl s) in
          let two = entries_read (map (kept_entry name) (level_of g)) x.body (held_text name rs namer n g (Some (x.kind, b)) x.kind b j refl s) in
          sym one ∙ two

  one_step : (room : ℕ) → ((less : ℕ) → less < room → AreOne less) → AreOne room
  one_step room ih n f g h j =
      let levels = one_level room ih (level_of f) (level_of g) (entries_held name rs n f room h) (entries_held name rs n g 4095 (j, within_all g j.map)) (same_entries n f g h.0 j) in
      sym (files-level_of f (parts_of f h.0.map.file_map)) ∙ ap files levels ∙ files-level_of g (parts_of g j.map.file_map)

  one_within : (most room : ℕ) → room < most → AreOne room
  one_within zero room l = absurd (omega (arith, l))
  one_within (suc most) room l = one_step room (λ less k. one_within most less (omega (arith, l, k)))

  pub one_map : (n : Bytes) (f g : FileMap Bytes) → IsHeldTree name rs n f → IsHeldTree name rs n g → f ≡ g
  one_map n f g h j = one_within 4096 4095 (omega arith) n f g (h, within_all f h.map) j
