-- The refs of what is told, by the lines that list them.
use Rattle.std.proofs.Common.{◌≡◌, List, [], ◌∷◌, Option, None, Some, sym, subst}
use Rattle.std.specs.Prelude.{T, IfSome, IsTrue}
use Rattle.std.specs.FinMap.Entries.{is_sorted}
use Rattle.std.specs.List.{AllByRecursion, flat_map}
use Rattle.gx_model.specs.declared.objects.Kind.{Kind}
use Rattle.gx_model.specs.Histories.{Records}
use Rattle.gx_model.specs.Objects.{IsNamer, is_name}
use Rattle.gx_model.specs.Records.Sound.{IsSound}
use Rattle.gx_model.specs.Stores.StoreText.{stored_ref}
use Rattle.gx_model.specs.Texts.{Bytes, byte_cmp}
use Rattle.gx_model.proofs.Stores.StoredRefs.{targets_name}
use Rattle.gx_model.proofs.Texts.PathTests.{is_true}
use Rattle.gx_objects.specs.Answers.{AreRefs, SpellsRefs}

-- these refs are read of a text that spells refs which a repository may have
abbrev pub ReadsThese : Bytes → List (Bytes × Bytes) → Type 0
ReadsThese lines shown = (refs : List (Bytes × Bytes)) → lines ≡ flat_map stored_ref refs → AreRefs refs → shown ≡ refs

-- so they stand in order
pub sorted_lines : (lines : Bytes) (shown : List (Bytes × Bytes)) → ReadsThese lines shown → SpellsRefs lines → IsTrue (is_sorted byte_cmp shown)
sorted_lines lines shown reads spelled = subst (λ rs. IsTrue (is_sorted byte_cmp rs)) (sym (reads spelled.0 spelled.1 spelled.2)) spelled.2.sorted

-- a sound repository may have its refs
sound_refs : (name : Kind → Bytes → Bytes) → IsNamer name → (r : Records) → IsSound name r → AreRefs r.refs
sound_refs name namer r sound = record {
  sorted = sound.sorted;
  names = sound.ref_names;
  objects = named r.refs (targets_name name namer r.records sound.distinct sound.named r.refs sound.held);
}
  where
    named : (refs : List (Bytes × Bytes)) → AllByRecursion (λ ref. T (is_name ref.1)) refs → AllByRecursion (λ ref. IsTrue (is_name ref.1)) refs
    named [] h = tt
    named (x ∷ xs) h = (is_true _ h.0, named xs h.1)

-- and they are the refs of what is told
pub told_lines : (name : Kind → Bytes → Bytes) → IsNamer name → (told : Option Records) → IfSome told (IsSound name) → (lines : Bytes) (shown : List (Bytes × Bytes))
    → ReadsThese lines shown → IfSome told (λ whole. lines ≡ flat_map stored_ref whole.refs) → IfSome told (λ whole. shown ≡ whole.refs)
told_lines name namer None sound lines shown reads spelled = tt
told_lines name namer (Some whole) sound lines shown reads spelled = reads whole.refs spelled (sound_refs name namer whole sound)
