-- What is against an object that is given, as the definition tells it.
use Rattle.gx_model.specs.Texts.{Bytes}
use Rattle.gx_wide.specs.Placing as model
use Rattle.gx_placed.specs.declared.fault.ObjectFault.{ObjectFault}
use Rattle.gx_placed.specs.declared.fault.ObjectFault.TheVariants.{BadObject, Dangling, NameHeld}

-- the fault of an object of this name
abbrev pub take_fault : ObjectFault → Bytes → model.TakeFault
take_fault BadObject of_name = model.BadObject of_name
take_fault NameHeld of_name = model.NameHeld of_name
take_fault (Dangling lacking) of_name = model.Dangling of_name lacking.bytes
