-- Why a text isn't made, and how that leaves the sink.
use Rattle.std.specs.Prelude.{◌≡◌, Option, None, Result, Ok, Err, ⊤}
use Rattle.gx_model.specs.Histories.{Records}
use Rattle.gx_model.specs.Texts.{Bytes}
use Rattle.gx_model.specs.Texts.Sinks.{FailedWithin, Taken, Took, TookFront}
use Rattle.gx_objects.specs.declared.fault.LookFault.{LookFault}
use Rattle.gx_objects.specs.declared.fault.LookFault.TheVariants as look
use Rattle.gx_kept.specs.declared.fault.KeptFault.{KeptFault}
use Rattle.gx_kept.specs.declared.fault.KeptFault.TheVariants.{OutOfMemory, ReadFailed, Damaged, WriteFailed}

abbrev pub of_look : LookFault → KeptFault
of_look look.OutOfMemory = OutOfMemory
of_look look.ReadFailed = ReadFailed
of_look look.Damaged = Damaged

-- only of what tells no repository it is answered that it is damaged
abbrev pub IsOnTheWay : {X : Type 0} → Option Records → Result X KeptFault → Type 0
IsOnTheWay told (Ok x) = ⊤
IsOnTheWay told (Err OutOfMemory) = ⊤
IsOnTheWay told (Err ReadFailed) = ⊤
IsOnTheWay told (Err WriteFailed) = ⊤
IsOnTheWay told (Err Damaged) = told ≡ None

-- where a text doesn't go out as a whole a front of it does, and the rest isn't empty where the sink failed
abbrev pub Stops : Bytes → Option Taken → Option Taken → KeptFault → Type 0
Stops text was now WriteFailed = FailedWithin was now text
Stops text was now OutOfMemory = TookFront was now text
Stops text was now ReadFailed = TookFront was now text
Stops text was now Damaged = TookFront was now text

-- a text went out, or the front of it
abbrev pub Sends : {X : Type 0} → Bytes → Option Taken → Option Taken → Result X KeptFault → Type 0
Sends text was now (Ok x) = Took was now text
Sends text was now (Err fault) = Stops text was now fault
