-- What has been taken over of a repository.
use Rattle.std.specs.Prelude.{◌≡◌, ◌⊎◌, ◌||◌, ℕ, Bool, is_some, List, None, Option, Some}
use Rattle.std.specs.List.{AllByRecursion}
use Rattle.gx_model.specs.declared.objects.Kind.{Kind}
use Rattle.gx_model.specs.Histories.{Record, Records}
use Rattle.gx_model.specs.Laws.StoreLaws.{IsBody}
use Rattle.gx_model.specs.Pruning.{links_of}
use Rattle.gx_model.specs.Records.Growth.{record_named}
use Rattle.gx_model.specs.Records.Sound.{AnyByRecursion}
use Rattle.gx_model.specs.Texts.{Bytes}
use Rattle.gx_object.specs.declared.name.Name.{Name}
use Rattle.gx_repo.specs.declared.fault.AddFault.{AddFault}
use Rattle.gx_repo.specs.declared.fault.AddFault.TheVariants as faults
use Rattle.gx_reached.specs.Damages.{AreDamages, IsBad, damage_in}
use Rattle.gx_reached.specs.Reaching.{Among, LinksHave}
use Rattle.gx_reached.specs.declared.bad.Bad.{Bad}
use Rattle.gx_reached.specs.declared.damage.Cause.{Cause}
use Rattle.gx_reached.specs.declared.damage.Cause.TheVariants as causes
use Rattle.gx_reached.specs.declared.damage.Damage.{Damage}
use Rattle.gx_salvage_refs.specs.Saved.{AreOf, IsSaved}

-- what is known of objects that aren't saved is so, and what is damaged isn't among the records
pub record AreUnsaved {A : Type 0} (name : Kind → Bytes → Bytes) (told : Option Records) (records : List Record) (bad : Bad A) : Type 0 where
  pub damages : AreDamages name told bad
  pub unheld : (called : Bytes) (damage : Damage) → damage_in bad called ≡ Some damage → record_named records damage.object.bytes ≡ None

-- an object of this name is held, or isn't saved
abbrev pub IsSettled : {A : Type 0} → List Record → Bad A → Bytes → Type 0
IsSettled records bad called = IsSaved records called ⊎ IsBad bad called

-- whether it is
abbrev pub is_settled : {A : Type 0} → List Record → Bad A → Bytes → Bool
is_settled records bad called = is_some (damage_in bad called) || is_some (record_named records called)

-- an object isn't saved, or what it names is settled
abbrev pub IsReady : {A : Type 0} → Records → List Record → Bad A → Bytes → Type 0
IsReady r records bad called = IsBad bad called ⊎ LinksHave r (IsSettled records bad) called

-- besides, the object of a name is settled
pub record Settles {A : Type 0} (r : Records) (called : Bytes) (records : List Record) (bad : Bad A) : Type 0 where
  pub records_are : AreOf r records
  pub settled : IsSettled records bad called

-- all that was in order, and what wasn't saved, is settled
pub record SettlesAll {A : Type 0} (r : Records) (order : List (ℕ × Name)) (old : Bad A) (records : List Record) (bad : Bad A) : Type 0 where
  pub records_are : AreOf r records
  pub settled : (called : Bytes) → Among order called ⊎ IsBad old called → IsSettled records bad called

-- the damage of a link that isn't saved, or else, where the links of a body that is one are all without any, that of an object
abbrev pub FindsDamage : {A : Type 0} → Bad A → Damage → Kind → Bytes → Damage → Type 0
FindsDamage bad own of_kind body damage =
    AnyByRecursion (λ link. damage_in bad link ≡ Some damage) (links_of of_kind body)
    ⊎ ((damage ≡ own) × (IsBody of_kind body → AllByRecursion (λ link. damage_in bad link ≡ None) (links_of of_kind body)))

-- why an object isn't saved, by why it is refused
abbrev pub TellsRefusal : AddFault → Cause → Type 0
TellsRefusal faults.OutOfMemory cause = ⊥
TellsRefusal faults.Dangling cause = cause ≡ causes.Dangling
TellsRefusal fault cause = cause ≡ causes.BadObject
