-- How what is read of a plain text by pieces goes with the reading of the whole one. Source: this project's own format.
use Rattle.std.specs.Prelude.{◌≡◌, ℕ, Option, Some, None, Err, ⊤}
use Rattle.gx_model.specs.declared.store_faults.FileFault.{FileFault}
use Rattle.gx_model.specs.Texts.{Bytes}
use Rattle.gx_model.specs.Stores.StoreReading.{Stored}
use Rattle.gx_at.specs.Reads.{part}
use Rattle.gx_objects.specs.declared.fault.LookFault.{LookFault}
use Rattle.gx_objects.specs.declared.fault.LookFault.TheVariants.{Damaged}

-- these are so many bytes of a text from a place on, and fewer where it ends before; of what tells no text, nothing is claimed
abbrev pub IsFrontAt : Option Bytes → ℕ → ℕ → Bytes → Type 0
IsFrontAt None at count room = ⊤
IsFrontAt (Some text) at count room = room ≡ part text at count

-- these are some bytes of it from a place on
abbrev pub HasFront : Option Bytes → ℕ → Bytes → Type 0
HasFront told at room = (count : ℕ) × IsFrontAt told at count room

-- there is a fault
abbrev pub IsRefused : {Y : Type 0} → Stored Y → Type 0
IsRefused given = (why : FileFault) × (given ≡ Err why)

-- where something is damaged there is a fault; of other refusals nothing is claimed
abbrev pub RefusesWith : {Y : Type 0} → LookFault → Stored Y → Type 0
RefusesWith fault given = fault ≡ Damaged → IsRefused given
