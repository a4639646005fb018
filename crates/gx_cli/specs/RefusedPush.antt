-- What a refused line of a push is about. Source: git-push(1), "--force-with-lease".
use Rattle.std.specs.Prelude.{◌≡◌, ◌⊎◌, ℕ, List, [], ◌∷◌, ◌++◌, Option, Some, None, Result, Ok, Err, codes}
use Rattle.std.specs.declared.vec.Vec.{Vec}
use Rattle.gx_model.specs.declared.store_faults.FileFault.{FileFault}
use Rattle.gx_model.specs.declared.store_faults.FileFault.TheVariants as file
use Rattle.gx_model.specs.Histories.{Records}
use Rattle.gx_model.specs.Records.Publishing.{Ref}
use Rattle.gx_model.specs.Stores.StoreReading.{Stored}
use Rattle.gx_model.specs.Texts.{Bytes}
use Rattle.gx_model.specs.Texts.Paths.{printed}
use Rattle.gx_push.specs.Wants.{Wanted, want_in}
use Rattle.gx_repo.specs.Refs.{object_named}
use Rattle.gx_repo.specs.Reporting.{digits_or_zeros}
use Rattle.gx_cli.specs.declared.fault.CliFault.{CliFault}
use Rattle.gx_cli.specs.declared.fault.CliFault.TheVariants.{OutOfMemory, Store}

-- the ref, the object that it has to hold, and the one that it holds
abbrev pub want_text : List Ref → Wanted → Bytes
want_text refs want =
    codes "gx: " ++ printed want.ref ++ codes ": expected " ++ digits_or_zeros want.old ++ codes ", found " ++ digits_or_zeros (object_named refs want.ref) ++ 10 ∷ []

-- the same of what a line wants, if anything
abbrev pub refused_text : List Ref → Option Wanted → Bytes
refused_text refs None = []
refused_text refs (Some want) = want_text refs want

-- what is told of a line and the store that a text was read as
abbrev pub TellsRefused : {A : Type 0} → Stored Records → Bytes → Result (Vec ℕ A) CliFault → Type 0
TellsRefused (Ok r) line (Ok text) = text.items ≡ refused_text r.refs (want_in line)
TellsRefused (Ok r) line (Err fault) = (fault ≡ OutOfMemory) ⊎ (fault ≡ Store file.OutOfMemory)
TellsRefused (Err f) line (Ok text) = ⊥
TellsRefused (Err f) line (Err fault) = (why : FileFault) × ((why ≡ file.OutOfMemory) ⊎ (f ≡ why)) × (fault ≡ Store why)
