-- What a push over a small repository leaves, brought to the whole one.
use Rattle.std.proofs.Common.{◌≡◌, List, [], ◌∷◌, ◌++◌, Ok, Option, None, Some, refl, sym, ap, ◌∙◌}
use Rattle.std.specs.Prelude.{T, IfSome, IsTrue, ℕ, Bool}
use Rattle.std.specs.List.{AllByRecursion, flat_map}
use Rattle.gx_model.specs.declared.objects.Kind.{Kind}
use Rattle.gx_model.specs.Histories.{Record, Records}
use Rattle.gx_model.specs.Objects.{IsNamer, is_name}
use Rattle.gx_model.specs.Records.Publishing.{Ref}
use Rattle.gx_model.specs.Records.Sound.{IsSound}
use Rattle.gx_model.specs.Stores.StoreText.{stored_ref}
use Rattle.gx_model.specs.Texts.{Bytes}
use Rattle.gx_model.proofs.Stores.StoredRefs.{targets_name}
use Rattle.gx_model.proofs.Texts.PathTests.{is_true}
use Rattle.gx_import.specs.declared.report.Report.{Report}
use Rattle.gx_growing_import.specs.Importing.{GivesTold}
use Rattle.gx_objects.specs.Answers.{AreRefs}
use Rattle.gx_push.specs.Pushes.{push_features, pushed}
use Rattle.gx_push.specs.Wants.{Wanted, wants_in}
use Rattle.gx_growing_push.specs.Pushing.{PushesTold}
use Rattle.gx_growing_push.specs.Wanting.{HoldLines, IsFree, Leaves}

-- a sound repository may have its refs
sound_refs : (name : Kind → Bytes → Bytes) → IsNamer name → (r : Records) → IsSound name r → AreRefs r.refs
sound_refs name namer r sound = record {
  sorted = sound.sorted;
  names = sound.ref_names;
  objects = named r.refs (targets_name name namer r.records sound.distinct sound.named r.refs sound.held);
}
  where
    named : (refs : List Ref) → AllByRecursion (λ ref. T (is_name ref.1)) refs → AllByRecursion (λ ref. IsTrue (is_name ref.1)) refs
    named [] h = tt
    named (x ∷ xs) h = (is_true _ h.0, named xs h.1)

-- lines hold for the refs of what is told
pub lines_hold : (told : Option Records) (before : List Ref) (lines : List Bytes) (wants : List Wanted) → IfSome told (λ whole. before ≡ whole.refs)
    → wants_in before lines ≡ Ok wants → AllByRecursion IsFree wants → IfSome told (λ whole. HoldLines whole.refs lines)
lines_hold None before lines wants same wanted free = tt
lines_hold (Some whole) before lines wants same wanted free = record { wants = wants; wanted = ap (λ rs. wants_in rs lines) (sym same) ∙ wanted; free = free }

-- and what is left of what the import makes is what the push leaves
pub pushes_told : (name : Kind → Bytes → Bytes) → IsNamer name → (done : Bool) (lines : List Bytes) (told : Option Records) (text : Bytes) (fails : Bool)
    (before : List Ref) → IfSome told (λ whole. before ≡ whole.refs) → (wants : List Wanted) → wants_in before lines ≡ Ok wants
    → (new : List Record) (made : Bytes) (count : ℕ) (progress : Bytes) (report : Report) → GivesTold name (push_features done) told text fails new made count progress report
    → (left : Bytes) (left_count : ℕ) → ((refs : List Ref) → made ≡ flat_map stored_ref refs → AreRefs refs → Leaves before refs wants left left_count)
    → PushesTold name done lines told text fails new left left_count progress report
pushes_told name namer done lines None text fails before same wants wanted new made count progress report gives left left_count leaves = tt
pushes_told name namer done lines (Some whole) text fails before same wants wanted new made count progress report gives left left_count leaves =
    let grown : Records = record { records = whole.records ++ new; refs = gives.named } in
    let l = leaves gives.named gives.lines (sound_refs name namer grown gives.sound) in
    record {
      wants = wants;
      wanted = ap (λ rs. wants_in rs lines) (sym same) ∙ wanted;
      made = gives.named;
      takes = gives.takes;
      sound = gives.sound;
      named = l.named;
      left = ap (λ rs. pushed rs grown wants) (sym same) ∙ l.left grown refl;
      spelled = l.spelled;
      counted = l.counted;
    }
