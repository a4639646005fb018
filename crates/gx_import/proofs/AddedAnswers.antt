-- Two steps that add values: what they give, and a fault of the first.
use Rattle.std.proofs.Common.{◌≡◌, ◌⊎◌, Result, Ok, Err, inl, inr, refl}
use Rattle.gx_model.specs.declared.faults.Fault.{Fault}
use Rattle.gx_model.specs.declared.faults.Fault.TheVariants as fault
use Rattle.gx_model.specs.Faults.{IsFaultOf, ◌>>=◌}
use Rattle.gx_import.specs.Answers.{AddsAs}
use Rattle.gx_import.proofs.FaultSteps.{fault_then}

-- what two steps give is what the second gives of the first's
pub both_given : {X Y : Type 0} (given : Result X Fault) (next : X → Result Y Fault) (y : Y) → (given >>= next) ≡ Ok y → (x : X) × (given ≡ Ok x) × (next x ≡ Ok y)
both_given (Ok x) next y h = (x, refl, h)
both_given (Err e) next y h = absurd (cc h)

-- a fault of the first of two steps, where a clash of its values is one of those of both
pub adds_then : {X Y Z W : Type 0} (clash more : Type 0) → (clash → more) → (Is : Y → X → Type 0) (Be : Z → W → Type 0) (e : Fault) (given : Result Y Fault) (next : Y → Result Z Fault)
    → AddsAs clash Is (Err e) given → AddsAs more Be (Err e) (given >>= next)
adds_then clash more f Is Be fault.NameHeld given next h = f h
adds_then clash more f Is Be e given next h = fault_then e given next h

-- a refusal is for want of memory, for a clash, or what the definition gives
pub adds_so : {X Y : Type 0} (clash : Type 0) (Is : Y → X → Type 0) (e : Fault) (given : Result Y Fault) → AddsAs clash Is (Err e) given → (e ≡ fault.OutOfMemory) ⊎ ((e ≡ fault.NameHeld) × clash) ⊎ (given ≡ Err e)
adds_so clash Is fault.OutOfMemory given h = inl refl
adds_so clash Is fault.NameHeld given h = inr (inl (refl, h))
adds_so clash Is e given h = inr (inr h)

-- and with no clash, for want of memory or what the definition gives
pub fault_so : {Y : Type 0} (e : Fault) (given : Result Y Fault) → IsFaultOf e given → (e ≡ fault.OutOfMemory) ⊎ (given ≡ Err e)
fault_so fault.OutOfMemory given h = inl refl
fault_so e given h = inr h
