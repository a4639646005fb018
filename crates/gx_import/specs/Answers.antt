-- How the answers of an import's steps go with what the model's steps give.
use Rattle.std.specs.Prelude.{◌≡◌, Result, Ok, Err}
use Rattle.gx_model.specs.declared.faults.Fault.{Fault}
use Rattle.gx_model.specs.Faults.{IsFaultOf}
use Rattle.gx_model.specs.declared.faults.Fault.TheVariants.{NameHeld}

-- What is answered is that which the definition gives; a fault is the definition's, unless memory ran out.
abbrev pub GivesAs : {X Y : Type 0} → (Y → X → Type 0) → Result X Fault → Result Y Fault → Type 0
GivesAs {X} {Y} Is (Ok x) given = (y : Y) × (given ≡ Ok y) × Is y x
GivesAs Is (Err e) given = IsFaultOf e given

-- The same, but a name that is held comes where a value to be added has the name of another one.
abbrev pub AddsAs : {X Y : Type 0} → Type 0 → (Y → X → Type 0) → Result X Fault → Result Y Fault → Type 0
AddsAs {X} {Y} clash Is (Ok x) given = (y : Y) × (given ≡ Ok y) × Is y x
AddsAs clash Is (Err NameHeld) given = clash
AddsAs clash Is (Err e) given = IsFaultOf e given
