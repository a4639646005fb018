-- The refs of a plain text that are tested so far, and what comes of them.
use Rattle.std.proofs.Common.{◌≡◌, ◌≢◌, ℕ, ◌+◌, ◌<◌, ◌≤◌, Bool, List, [], ◌∷◌, ◌++◌, codes, Option, Some, None, Ok, Err, refl, ap, ◌∙◌, subst}
use Rattle.std.specs.Prelude.{IfSome}
use Rattle.gx_model.specs.declared.objects.Kind.{Kind}
use Rattle.gx_model.specs.declared.store_versions.Version.{Version}
use Rattle.gx_model.specs.Texts.{Bytes}
use Rattle.gx_model.specs.Histories.{Record}
use Rattle.gx_model.specs.Records.Publishing.{Ref}
use Rattle.gx_model.specs.Records.Growth.{record_named}
use Rattle.gx_model.specs.Stores.StoreReading.{is_target, next_ref, next_refs}
use Rattle.gx_listed.specs.Listings.{Listed}
use Rattle.gx_objects.specs.declared.fault.LookFault.{LookFault}
use Rattle.gx_objects.specs.declared.fault.LookFault.TheVariants.{Damaged}
use Rattle.gx_plain.specs.Reading.{IsRefused}
use Rattle.gx_repo.specs.declared.publishing.RefChange.{RefChange}
use Rattle.gx_plain.specs.Refs.{AreTold, TellsTarget, TestsTargets}
use Rattle.gx_plain.proofs.NextRefs.{AreFar, all_far, no_end, none_far, one_far, refused_far, refused_then}

module _ (name : Kind → Bytes → Bytes) (v : Version) (told : Option Bytes) (listed : List Listed) (count : ℕ) (lines : Bytes) where
  -- some refs were read of a text that is told
  abbrev pub FarIfTold : ℕ → Option Bytes → Bytes → Type 0
  FarIfTold i last rest = IfSome told (λ text. (rs : List Record) → AreTold name v text listed rs → AreFar rs count lines i last rest)

  each : (P : Bytes → Type 0) → ((text : Bytes) → told ≡ Some text → P text) → IfSome told P
  each P f = by told f
    where
      by : (o : Option Bytes) → ((text : Bytes) → o ≡ Some text → P text) → IfSome o P
      by None f = tt
      by (Some text) f = f text refl

  pub begun_tested : FarIfTold 0 None lines
  begun_tested = each (λ text. (rs : List Record) → AreTold name v text listed rs → AreFar rs count lines 0 None lines) (λ text e rs h. none_far rs count lines)

  -- what isn't told of one ref isn't of all
  pub untold_tested : (change : RefChange) (why : LookFault) → TellsTarget name v told listed change (Err why) → TestsTargets name v told listed count lines (Err why)
  untold_tested change why h = by told h
    where
      by : (o : Option Bytes) → TellsTarget name v o listed change (Err why) → TestsTargets name v o listed count lines (Err why)
      by None k = tt
      by (Some text) k = λ rs held same. absurd (k rs held same)

  -- whether a ref may hold its object is told of each text that is
  pub told_target : (change : RefChange) (may : Bool) → TellsTarget name v told listed change (Ok may)
      → (text : Bytes) → told ≡ Some text → (rs : List Record) → AreTold name v text listed rs → may ≡ is_target change.name.now (record_named rs change.target.bytes)
  told_target change may h text is rs held = (subst (λ o. TellsTarget name v o listed change (Ok may)) is h) rs held

  module _ (i : ℕ) (last : Option Bytes) (rest : Bytes) (far : FarIfTold i last rest) where
    pub refused_tested : i < count → ((text : Bytes) → told ≡ Some text → (rs : List Record) → AreTold name v text listed rs → IsRefused (next_ref rs last rest)) → TestsTargets name v told listed count lines (Err Damaged)
    refused_tested l f = by told far f
      where
        by : (o : Option Bytes) → IfSome o (λ text. (rs : List Record) → AreTold name v text listed rs → AreFar rs count lines i last rest)
            → ((text : Bytes) → o ≡ Some text → (rs : List Record) → AreTold name v text listed rs → IsRefused (next_ref rs last rest)) → TestsTargets name v o listed count lines (Err Damaged)
        by None k f = tt
        by (Some text) k f = λ rs h same. refused_then rs (next_refs count rs None lines) (refused_far rs count lines i last rest (k rs h) l (f text refl rs h))

    pub more_tested : i < count → (x : Ref × Bytes) → ((text : Bytes) → told ≡ Some text → (rs : List Record) → AreTold name v text listed rs → next_ref rs last rest ≡ Ok x) → FarIfTold (i + 1) (Some x.0.0) x.1
    more_tested l x f = by told far f
      where
        by : (o : Option Bytes) → IfSome o (λ text. (rs : List Record) → AreTold name v text listed rs → AreFar rs count lines i last rest)
            → ((text : Bytes) → o ≡ Some text → (rs : List Record) → AreTold name v text listed rs → next_ref rs last rest ≡ Ok x)
            → IfSome o (λ text. (rs : List Record) → AreTold name v text listed rs → AreFar rs count lines (i + 1) (Some x.0.0) x.1)
        by None k f = tt
        by (Some text) k f = λ rs h. one_far rs count lines i last rest (k rs h) l x (f text refl rs h)

    pub other_end : count ≤ i → rest ≢ codes "end" ++ 10 ∷ [] → TestsTargets name v told listed count lines (Err Damaged)
    other_end l other = by told far
      where
        by : (o : Option Bytes) → IfSome o (λ text. (rs : List Record) → AreTold name v text listed rs → AreFar rs count lines i last rest) → TestsTargets name v o listed count lines (Err Damaged)
        by None k = tt
        by (Some text) k = λ rs h same.
            let a = k rs h in
            no_end rs (next_refs count rs None lines) (a.far ++ [], rest) (all_far rs count lines i last rest a l) other

    pub all_tested : count ≤ i → rest ≡ codes "end" ++ 10 ∷ [] → TestsTargets name v told listed count lines (Ok tt)
    all_tested l e = by told far
      where
        by : (o : Option Bytes) → IfSome o (λ text. (rs : List Record) → AreTold name v text listed rs → AreFar rs count lines i last rest) → TestsTargets name v o listed count lines (Ok tt)
        by None k = tt
        by (Some text) k = λ rs h.
            let a = k rs h in
            (a.far ++ [], all_far rs count lines i last rest a l ∙ ap (λ z. Ok (a.far ++ [], z)) e)
