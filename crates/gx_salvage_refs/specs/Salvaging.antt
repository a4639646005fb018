-- What is saved of refs, and why the others are lost. Source: gitglossary(7), "reachable", and git-check-ref-format(1).
use Rattle.std.specs.Prelude.{◌≡◌, ◌⊎◌, Bool, is_none, not, List, map, None}
use Rattle.std.specs.List.{AllByRecursion, filter, flat_map}
use Rattle.gx_model.specs.declared.objects.Kind.{Kind}
use Rattle.gx_model.specs.Histories.{Record, Records}
use Rattle.gx_model.specs.Records.Growth.{record_named}
use Rattle.gx_model.specs.Records.Publishing.{Ref, change_fault}
use Rattle.gx_model.specs.Stores.StoreText.{stored_ref}
use Rattle.gx_model.specs.Texts.{Bytes}
use Rattle.gx_objects.specs.Answers.{AreRefs}
use Rattle.gx_reached.specs.Damages.{Leads}
use Rattle.gx_reached.specs.declared.damage.Cause.TheVariants.{ReadFailed, WrongKind}
use Rattle.gx_salvage_refs.specs.Saved.{AreOf, IsSaved}
use Rattle.gx_salvage_refs.specs.declared.lost.Lost.{Lost}

-- a lost ref: its name, and the name of the object that it held
abbrev pub lost_ref : {A : Type 0} → Lost A → Ref
lost_ref lost = (lost.name.items, lost.target.bytes)

-- whether a ref may hold its object among these records
abbrev pub is_settable : List Record → Ref → Bool
is_settable records ref = is_none (change_fault records ref)

-- refs are parted by whether they may hold their objects among these records
pub record ArePartedBy {A : Type 0} (records : List Record) (refs kept : List Ref) (lost : List (Lost A)) : Type 0 where
  pub kept_are : kept ≡ filter (is_settable records) refs
  pub lost_are : map lost_ref lost ≡ filter (λ ref. not (is_settable records ref)) refs

-- the refs that these lines spell are parted so
abbrev pub ArePartedRefs : {A : Type 0} → Bytes → Records → List (Lost A) → Type 0
ArePartedRefs lines saved lost = (refs : List Ref) → AreRefs refs → lines ≡ flat_map stored_ref refs → ArePartedBy saved.records refs saved.refs lost

-- A ref whose object isn't saved is lost by one that it leads to, and that isn't saved, either. One whose object is saved may not
-- hold it.
abbrev pub IsLostBy : {A : Type 0} → (Kind → Bytes → Bytes) → List Record → Lost A → Type 0
IsLostBy name records lost =
    ((record_named records lost.target.bytes ≡ None) × Leads name lost.target.bytes lost.damage.object.bytes × (record_named records lost.damage.object.bytes ≡ None))
    ⊎ (IsSaved records lost.target.bytes × (lost.damage ≡ record { object = lost.target; cause = WrongKind }))

-- of a repository nothing else is saved than its records, and nothing is lost but by reads that failed
pub record IsSavedOf {A : Type 0} (r saved : Records) (lost : List (Lost A)) : Type 0 where
  pub records_are : AreOf r saved.records
  pub read : AllByRecursion (λ one. one.damage.cause ≡ ReadFailed) lost
