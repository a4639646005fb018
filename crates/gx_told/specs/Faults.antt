-- The faults of what is below, among those of what is told.
use Rattle.std.specs.Prelude.{ℕ}
use Rattle.gx_batch.specs.declared.fault.BatchFault.{BatchFault}
use Rattle.gx_batch.specs.declared.fault.BatchFault.TheVariants as batch
use Rattle.gx_objects.specs.declared.fault.LookFault.{LookFault}
use Rattle.gx_objects.specs.declared.fault.LookFault.TheVariants as look
use Rattle.gx_questions.specs.declared.fault.AskFault.{AskFault}
use Rattle.gx_questions.specs.declared.fault.AskFault.TheVariants as ask
use Rattle.gx_rev.specs.declared.fault.RevFault.{RevFault}
use Rattle.gx_rev.specs.declared.fault.RevFault.TheVariants as rev
use Rattle.gx_rev.specs.declared.fault.WalkFault.{WalkFault}
use Rattle.gx_told.specs.declared.fault.ToldFault.{ToldFault}
use Rattle.gx_told.specs.declared.fault.ToldFault.TheVariants.{Damaged, OutOfMemory, ReadFailed, Revision, StoreReadFailed, WriteFailed}

-- a fault of a look at objects or refs
abbrev pub of_look : LookFault → ToldFault
of_look look.OutOfMemory = OutOfMemory
of_look look.ReadFailed = StoreReadFailed
of_look look.Damaged = Damaged

-- a fault of a source's lines, and of answers to them
abbrev pub of_batch : BatchFault → ToldFault
of_batch batch.OutOfMemory = OutOfMemory
of_batch batch.ReadFailed = ReadFailed
of_batch batch.WriteFailed = WriteFailed

-- why the word with this number isn't answered; all but its refusal is of no word
abbrev pub refused_at : ℕ → AskFault → ToldFault
refused_at number ask.OutOfMemory = OutOfMemory
refused_at number ask.ReadFailed = StoreReadFailed
refused_at number ask.Damaged = Damaged
refused_at number (ask.Revision kind) = Revision number kind

-- why a word isn't read; want of memory is of no word
abbrev pub unread : ℕ → RevFault → ToldFault
unread number rev.OutOfMemory = OutOfMemory
unread number kind = Revision number kind

abbrev pub refused_read : WalkFault → ToldFault
refused_read fault = unread fault.word fault.kind
