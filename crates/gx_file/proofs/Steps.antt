-- What a fault says of the definition.
use Rattle.std.proofs.Common.{◌≡◌, ◌≢◌, Err, refl}
use Rattle.gx_model.specs.Stores.StoreReading.{Stored}
use Rattle.gx_model.specs.declared.store_faults.FileFault.{FileFault}
use Rattle.gx_model.specs.declared.store_faults.FileFault.TheVariants.{OutOfMemory}
use Rattle.gx_lines.specs.Reads.{IsFaultOf}

-- What gives a fault where another thing does has that one's fault.
pub moved : {Y Z : Type 0} (fault : FileFault) (given : Stored Y) (other : Stored Z) → (given ≡ Err fault → other ≡ Err fault)
    → IsFaultOf fault given → IsFaultOf fault other
moved OutOfMemory given other f h = tt
moved _ given other f h = f h

-- A fault other than want of memory is what the definition gives.
pub explained : {Y : Type 0} (fault : FileFault) (given : Stored Y) → fault ≢ OutOfMemory → IsFaultOf fault given → given ≡ Err fault
explained OutOfMemory given other h = absurd (other refl)
explained _ given other h = h
