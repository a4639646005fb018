-- A fault of the first of two steps is one of both.
use Rattle.std.proofs.Common.{Result, ap}
use Rattle.gx_model.specs.declared.faults.Fault.{Fault}
use Rattle.gx_model.specs.declared.faults.Fault.TheVariants as fault
use Rattle.gx_model.specs.Faults.{IsFaultOf, ◌>>=◌}

pub fault_then : {X Y : Type 0} (f : Fault) (given : Result X Fault) (next : X → Result Y Fault) → IsFaultOf f given → IsFaultOf f (given >>= next)
fault_then fault.OutOfMemory given next h = tt
fault_then e given next h = ap (λ r. r >>= next) h
