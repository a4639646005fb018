-- Why an export of changes stops.
use Rattle.std.specs.Prelude.{ℕ}
use Rattle.gx_objects.specs.declared.fault.LookFault.{LookFault}
use Rattle.gx_objects.specs.declared.fault.LookFault.TheVariants as look
use Rattle.gx_questions.specs.declared.fault.AskFault.{AskFault}
use Rattle.gx_questions.specs.declared.fault.AskFault.TheVariants as ask
use Rattle.gx_sending.specs.declared.fault.SendFault.{SendFault}
use Rattle.gx_sending.specs.declared.fault.SendFault.TheVariants as send
use Rattle.gx_changes.specs.declared.fault.ChangesFault.{ChangesFault}
use Rattle.gx_changes.specs.declared.fault.ChangesFault.TheVariants.{OutOfMemory, ReadFailed, Damaged, Unsupported, WriteFailed, Word}

abbrev pub of_look : LookFault → ChangesFault
of_look look.OutOfMemory = OutOfMemory
of_look look.ReadFailed = ReadFailed
of_look look.Damaged = Damaged

abbrev pub of_send : SendFault → ChangesFault
of_send send.OutOfMemory = OutOfMemory
of_send send.ReadFailed = ReadFailed
of_send send.Damaged = Damaged
of_send (send.WriteFailed written) = WriteFailed written
of_send send.Unsupported = Unsupported

-- the range word with this number is refused, or none is
abbrev pub of_range : ℕ → AskFault → ChangesFault
of_range word ask.OutOfMemory = OutOfMemory
of_range word ask.ReadFailed = ReadFailed
of_range word ask.Damaged = Damaged
of_range word (ask.Revision fault) = Word word fault
