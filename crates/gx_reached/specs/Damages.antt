-- What is damaged of objects that aren't saved.
use Rattle.std.specs.Prelude.{◌≡◌, if◌then◌else◌, is_some, IfSome, IsTrue, Option, Some}
use Rattle.std.specs.BTreeMap.{get}
use Rattle.std.specs.List.{list_any}
use Rattle.gx_model.specs.declared.objects.Kind.{Kind}
use Rattle.gx_model.specs.Texts.{Bytes, byte_cmp, same_bytes}
use Rattle.gx_model.specs.Histories.{Records}
use Rattle.gx_model.specs.Pruning.{links_of}
use Rattle.gx_reached.specs.declared.bad.Bad.{Bad}
use Rattle.gx_reached.specs.declared.damage.Cause.TheVariants.{ReadFailed}
use Rattle.gx_reached.specs.declared.damage.Damage.{Damage}

-- an object of a name names another: by a body that gets the name
pub record Links (name : Kind → Bytes → Bytes) (called link : Bytes) : Type 0 where
  pub of_kind : Kind
  pub body : Bytes
  pub named : name of_kind body ≡ called
  pub linked : IsTrue (list_any (same_bytes link) (links_of of_kind body))

-- an object of a name leads to another: it is that, or it names one that leads there
pub data Leads (name : Kind → Bytes → Bytes) : Bytes → Bytes → Type 0 where
  itself : (called reached : Bytes) → called ≡ reached → Leads name called reached
  through : (called link reached : Bytes) → Links name called link → Leads name link reached → Leads name called reached

-- what is damaged of the object of a name
abbrev pub damage_in : {A : Type 0} → Bad A → Bytes → Option Damage
damage_in bad called = get (λ x y. byte_cmp x.bytes y.bytes) bad.damages (record { bytes = called })

-- the object of a name isn't saved
abbrev pub IsBad : {A : Type 0} → Bad A → Bytes → Type 0
IsBad bad called = IsTrue (is_some (damage_in bad called))

-- this is damaged of the object of a name now, and of the others what was
abbrev pub Enters : {A : Type 0} → Bad A → Bad A → Bytes → Damage → Type 0
Enters old new called damage = (other : Bytes) → damage_in new other ≡ (if same_bytes called other then Some damage else damage_in old other)

-- what isn't saved isn't saved later
abbrev pub KeepsBad : {A : Type 0} → Bad A → Bad A → Type 0
KeepsBad old new = (called : Bytes) → IsBad old called → IsBad new called

module _ (name : Kind → Bytes → Bytes) (told : Option Records) where
  -- what is damaged of an object is one that it leads to; of what tells a repository only a read failed
  pub record IsDamage (called : Bytes) (damage : Damage) : Type 0 where
    pub leads : Leads name called damage.object.bytes
    pub unread : IfSome told (λ _. damage.cause ≡ ReadFailed)

  -- each of these is so, and is entered itself
  pub record AreDamages {A : Type 0} (bad : Bad A) : Type 0 where
    pub each : (called : Bytes) (damage : Damage) → damage_in bad called ≡ Some damage → IsDamage called damage
    pub itself : (called : Bytes) (damage : Damage) → damage_in bad called ≡ Some damage → IsBad bad damage.object.bytes
