-- Why what is sent stops, and how that leaves the sink.
use Rattle.std.specs.Prelude.{◌≡◌, Option, None, Result, Ok, Err, ⊤}
use Rattle.gx_model.specs.Histories.{Records}
use Rattle.gx_export.specs.declared.fault.ExportFault.{ExportFault}
use Rattle.gx_export.specs.declared.fault.ExportFault.TheVariants as export
use Rattle.gx_objects.specs.declared.fault.LookFault.{LookFault}
use Rattle.gx_objects.specs.declared.fault.LookFault.TheVariants as look
use Rattle.gx_questions.specs.declared.fault.AskFault.{AskFault}
use Rattle.gx_questions.specs.declared.fault.AskFault.TheVariants as ask
use Rattle.gx_sending.specs.declared.fault.SendFault.{SendFault}
use Rattle.gx_sending.specs.declared.fault.SendFault.TheVariants.{OutOfMemory, ReadFailed, Damaged, Unsupported, WriteFailed}

abbrev pub of_export : ExportFault → SendFault
of_export export.OutOfMemory = OutOfMemory
of_export (export.WriteFailed written) = WriteFailed written
of_export export.Unsupported = Unsupported

abbrev pub of_look : LookFault → SendFault
of_look look.OutOfMemory = OutOfMemory
of_look look.ReadFailed = ReadFailed
of_look look.Damaged = Damaged

-- what is held by a repository is refused by none of its questions
abbrev pub of_ask : AskFault → SendFault
of_ask ask.OutOfMemory = OutOfMemory
of_ask ask.ReadFailed = ReadFailed
of_ask ask.Damaged = Damaged
of_ask (ask.Revision fault) = Damaged

-- only of what tells no repository it is answered that it is damaged
abbrev pub IsOnTheWay : {X : Type 0} → Option Records → Result X SendFault → Type 0
IsOnTheWay told (Ok x) = ⊤
IsOnTheWay told (Err OutOfMemory) = ⊤
IsOnTheWay told (Err ReadFailed) = ⊤
IsOnTheWay told (Err (WriteFailed written)) = ⊤
IsOnTheWay told (Err Unsupported) = ⊤
IsOnTheWay told (Err Damaged) = told ≡ None

-- How a stop leaves the sink: a read that fails stops a text as want of memory does.
abbrev pub stop : SendFault → ExportFault
stop (WriteFailed written) = export.WriteFailed written
stop Unsupported = export.Unsupported
stop _ = export.OutOfMemory

abbrev pub stopped : Result (Unit {0}) SendFault → Result (Unit {0}) ExportFault
stopped (Ok x) = Ok x
stopped (Err fault) = Err (stop fault)
