-- Refs that are kept, and what others are lost by. Source: gitglossary(7), "ref".
use Rattle.std.specs.Prelude.{◌≡◌, ◌⊎◌, List, None, Option, Some}
use Rattle.gx_model.specs.Histories.{Record}
use Rattle.gx_model.specs.Records.Growth.{record_named}
use Rattle.gx_object.specs.declared.name.Name.{Name}
use Rattle.gx_reached.specs.Damages.{damage_in}
use Rattle.gx_reached.specs.declared.bad.Bad.{Bad}
use Rattle.gx_reached.specs.declared.damage.Cause.TheVariants.{Damaged, WrongKind}
use Rattle.gx_reached.specs.declared.damage.Damage.{Damage}
use Rattle.gx_salvage_refs.specs.Saved.{IsSaved}
use Rattle.gx_salvage_refs.specs.declared.lost.Lost.{Lost}

-- an object that isn't held is damaged as is known, or else what stands at its place is another
abbrev pub IsKnownDamage : Name → Option Damage → Damage → Type 0
IsKnownDamage target None damage = damage ≡ record { object = target; cause = Damaged }
IsKnownDamage target (Some known) damage = damage ≡ known

-- a ref is lost by what is known of its object, where that isn't held, or else by this, which it may not hold
abbrev pub IsLossOf : {A : Type 0} → List Record → Bad A → Name → Damage → Type 0
IsLossOf records bad target damage =
    ((record_named records target.bytes ≡ None) × IsKnownDamage target (damage_in bad target.bytes) damage)
    ⊎ (IsSaved records target.bytes × (damage ≡ record { object = target; cause = WrongKind }))

-- a lost ref is lost so
abbrev pub IsLossBy : {A : Type 0} → List Record → Bad A → Lost A → Type 0
IsLossBy records bad lost = IsLossOf records bad lost.target lost.damage
