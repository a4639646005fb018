-- A record that is found by a name has it, and stands at the name's place. Refs of a sound repository.
use Rattle.std.proofs.Common.{ℕ, zero, suc, ◌<◌, ◌≡◌, Bool, true, false, cond, refl, sym, ap, ◌∙◌, List, [], ◌∷◌, length, get_or, Option, Some, None, arith}
use Rattle.std.specs.Prelude.{T, IsTrue}
use Rattle.std.specs.Bool.{passes}
use Rattle.std.specs.List.{AllByRecursion, slice_get}
use Rattle.std.specs.Option.{option_map}
use Rattle.std.proofs.lemmas.List.Quantifiers.{position-Some}
use Rattle.std.proofs.lemmas.Option.{slice_get-get_or}
use Rattle.gx_model.specs.declared.objects.Kind.{Kind}
use Rattle.gx_model.specs.declared.objects.Kind.TheVariants.{Blob}
use Rattle.gx_model.specs.Texts.{Bytes, same_bytes}
use Rattle.gx_model.specs.Histories.{Record, Records, object_of}
use Rattle.gx_model.specs.Objects.{IsNamer, is_name}
use Rattle.gx_model.specs.Records.Growth.{record_named}
use Rattle.gx_model.specs.Records.Sound.{IsSound}
use Rattle.gx_model.proofs.Stores.StoredRefs.{targets_name}
use Rattle.gx_model.proofs.Texts.PathTests.{is_true, same_is}
use Rattle.gx_store.specs.Stores.{place_named}
use Rattle.gx_objects.specs.Answers.{AreRefs}

pub named_found : (name : Kind → Bytes → Bytes) (rs : List Record) (called : Bytes) (o : Kind × Bytes) → AllByRecursion (λ held. held.name ≡ name held.kind held.body) rs → Some o ≡ option_map object_of (record_named rs called) → name o.0 o.1 ≡ called
named_found name [] called o all found = absurd cc
named_found name (r ∷ rs) called o all found = by (λ f. named_found name rs called o all.1 f) (same_bytes called r.name) refl found
  where
    by : (Some o ≡ option_map object_of (record_named rs called) → name o.0 o.1 ≡ called) → (b : Bool) → same_bytes called r.name ≡ b → Some o ≡ option_map object_of (cond b (Some r) (record_named rs called)) → name o.0 o.1 ≡ called
    by rest true e f =
        let same : o ≡ object_of r = cc f in
        ap (λ (p : Kind × Bytes). name p.0 p.1) same ∙ sym all.0 ∙ sym (same_is called r.name (passes _ e))
    by rest false e f = rest f

-- A number that stands for itself is as it was.
pub same_number : (o : Option ℕ) → o ≡ option_map (λ number. number) o
same_number None = refl
same_number (Some n) = refl

-- The first record with a name is the one that the name leads to.
first_named : (rs : List Record) (called : Bytes) (i : ℕ) (d : Record) → i < length rs → same_bytes called (get_or rs i d).name ≡ true → ((k : ℕ) → k < i → same_bytes called (get_or rs k d).name ≡ false)
    → record_named rs called ≡ Some (get_or rs i d)
first_named [] called i d l here before = absurd (omega (arith, l))
first_named (r ∷ rs) called zero d l here before = ap (λ b. cond b (Some r) (record_named rs called)) here
first_named (r ∷ rs) called (suc i) d l here before =
    ap (λ b. cond b (Some r) (record_named rs called)) (before 0 (omega arith))
    ∙ first_named rs called i d (omega (arith, l)) here (λ k m. before (suc k) (omega (arith, m)))

-- The record at a name's place is the one that the name leads to.
pub record_there : (rs : List Record) (called : Bytes) (i : ℕ) → Some i ≡ option_map (λ number. number) (place_named rs called) → (held : Record) × (slice_get rs i ≡ Some held) × (record_named rs called ≡ Some held)
record_there rs called i e =
    let none : Record = record { name = []; kind = Blob; body = [] } in
    let there = position-Some (λ held. same_bytes called held.name) rs i none (same_number (place_named rs called) ∙ sym e) in
    (get_or rs i none, slice_get-get_or rs i none there.0, first_named rs called i none there.0 there.1 there.2)

-- The refs of a sound repository are as one may have them.
pub refs_are : (name : Kind → Bytes → Bytes) → IsNamer name → (r : Records) → IsSound name r → AreRefs r.refs
refs_are name namer r sound = record {
  sorted = sound.sorted;
  names = sound.ref_names;
  objects = named r.refs (targets_name name namer r.records sound.distinct sound.named r.refs sound.held);
}
  where
    named : (refs : List (Bytes × Bytes)) → AllByRecursion (λ ref. T (is_name ref.1)) refs → AllByRecursion (λ ref. IsTrue (is_name ref.1)) refs
    named [] h = tt
    named (x ∷ xs) h = (is_true _ h.0, named xs h.1)
