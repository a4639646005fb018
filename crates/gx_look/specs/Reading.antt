-- What is answered of a text, or why it isn't.
use Rattle.std.specs.Prelude.{◌≡◌, ◌≢◌, ℕ, ◌<◌, length, Option, Some, None, Result, Ok, Err, ⊤}
use Rattle.gx_model.specs.Texts.{Bytes}
use Rattle.gx_objects.specs.declared.fault.LookFault.{LookFault}
use Rattle.gx_objects.specs.declared.fault.LookFault.TheVariants.{Damaged}

-- what is answered is so, unless memory ran out or a read failed
abbrev pub Gives : {X : Type 0} → (X → Type 0) → Result X LookFault → Type 0
Gives Fact (Ok x) = Fact x
Gives Fact (Err fault) = fault ≢ Damaged

-- a text that is damaged ends before a place
abbrev pub EndsBefore : Option Bytes → ℕ → LookFault → Type 0
EndsBefore None place fault = ⊤
EndsBefore (Some text) place fault = fault ≡ Damaged → length text < place
