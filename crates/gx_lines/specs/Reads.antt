-- How answers of a store text's readers go with what the definitions give. Source: this project's own format.
use Rattle.std.specs.Prelude.{◌≡◌, ℕ, Result, Ok, Err, ⊤}
use Rattle.std.specs.Borrow.{Bor}
use Rattle.gx_model.specs.declared.store_faults.FileFault.{FileFault}
use Rattle.gx_model.specs.declared.store_faults.FileFault.TheVariants.{OutOfMemory}
use Rattle.gx_model.specs.declared.store_versions.Version.{Version}
use Rattle.gx_model.specs.Texts.{Bytes}
use Rattle.gx_model.specs.Stores.StoreReading.{Stored}

-- a fault is the definition's; want of memory isn't
abbrev pub IsFaultOf : {Y : Type 0} → FileFault → Stored Y → Type 0
IsFaultOf OutOfMemory given = ⊤
IsFaultOf f given = given ≡ Err f

-- an answer, seen so, is what the definition gives, unless memory ran out
abbrev pub Reads : {X Y : Type 0} → (X → Y) → Result X FileFault → Stored Y → Type 0
Reads view (Ok x) given = given ≡ Ok (view x)
Reads view (Err e) given = IsFaultOf e given

-- a number and what follows its line
abbrev pub shown_count : ℕ × Bor Bytes → ℕ × Bytes
shown_count parts = (parts.0, parts.1.now)

-- a version and what follows its line
abbrev pub shown_start : Version × Bor Bytes → Version × Bytes
shown_start parts = (parts.0, parts.1.now)
