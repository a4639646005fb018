-- The refs of a sound repository, and their lines.
use Rattle.std.proofs.Common.{◌≡◌, T, List, [], ◌∷◌}
use Rattle.std.specs.Prelude.{IsTrue}
use Rattle.std.specs.Bool.{passes}
use Rattle.std.specs.List.{AllByRecursion, list_all}
use Rattle.gx_model.specs.declared.objects.Kind.{Kind}
use Rattle.gx_model.specs.Texts.{Bytes, is_line}
use Rattle.gx_model.specs.Texts.RefNames.{is_ref_name}
use Rattle.gx_model.specs.Histories.{Records}
use Rattle.gx_model.specs.Objects.{IsNamer, is_name}
use Rattle.gx_model.specs.Records.Sound.{IsSound}
use Rattle.gx_model.proofs.Stores.StoredRefs.{targets_name}
use Rattle.gx_model.proofs.Texts.LineTexts.{ref_is_line}
use Rattle.gx_model.proofs.Texts.PathTests.{first, is_true, second}
use Rattle.gx_objects.specs.Answers.{AreRefs}
use Rattle.gx_look.specs.Refs.{AreLines}
use Rattle.gx_look.specs.Tails.{refs_text}

pub refs_are : (name : Kind → Bytes → Bytes) → IsNamer name → (r : Records) → IsSound name r → AreRefs r.refs
refs_are name namer r sound = record {
  sorted = sound.sorted;
  names = sound.ref_names;
  objects = named r.refs (targets_name name namer r.records sound.distinct sound.named r.refs sound.held);
}
  where
    named : (refs : List (Bytes × Bytes)) → AllByRecursion (λ ref. T (is_name ref.1)) refs → AllByRecursion (λ ref. IsTrue (is_name ref.1)) refs
    named [] h = tt
    named (x ∷ xs) h = (is_true _ h.0, named xs h.1)

-- the lines of refs as a repository may have them
pub lines_of : (lines : Bytes) (refs : List (Bytes × Bytes)) → lines ≡ refs_text refs → AreRefs refs → AreLines lines refs
lines_of lines refs e h = record { spelled = e; names = names refs (passes _ h.names); targets = h.objects; sorted = h.sorted }
  where
    names : (refs : List (Bytes × Bytes)) → T (list_all (λ ref. is_ref_name ref.0) refs) → AllByRecursion (λ ref. IsTrue (is_line ref.0)) refs
    names [] h = tt
    names (x ∷ xs) h = (ref_is_line x.0 (is_true _ (first (is_ref_name x.0) (list_all (λ ref. is_ref_name ref.0) xs) h)), names xs (second (is_ref_name x.0) (list_all (λ ref. is_ref_name ref.0) xs) h))
