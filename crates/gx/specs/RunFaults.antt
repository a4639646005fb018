-- What a refused run prints on standard error. Source: this project's own.
use Rattle.std.specs.Prelude.{ℕ, List, ◌++◌, codes}
use Rattle.std.specs.Fmt.{decimal}
use Rattle.gx_changes.specs.declared.fault.ChangesFault.{ChangesFault}
use Rattle.gx_changes.specs.declared.fault.ChangesFault.TheVariants as changes
use Rattle.gx_cli.specs.FaultLines as command
use Rattle.gx_cli.specs.declared.fault.CliFault.TheVariants as cli
use Rattle.gx_export.specs.declared.fault.ExportFault.TheVariants as export
use Rattle.gx_kept.specs.declared.bundle_fault.BundleFault.{BundleFault}
use Rattle.gx_kept.specs.declared.bundle_fault.BundleFault.TheVariants.{Stopped, Unsupported}
use Rattle.gx_kept.specs.declared.fault.KeptFault.{KeptFault}
use Rattle.gx_kept.specs.declared.fault.KeptFault.TheVariants as kept
use Rattle.gx_objects.specs.declared.fault.LookFault.{LookFault}
use Rattle.gx_objects.specs.declared.fault.LookFault.TheVariants as look
use Rattle.gx_questions.specs.declared.fault.AskFault.{AskFault}
use Rattle.gx_questions.specs.declared.fault.AskFault.TheVariants as ask
use Rattle.gx_ranges.specs.declared.fault.RangeFault.{RangeFault}
use Rattle.gx_told.specs.declared.fault.ToldFault.{ToldFault}
use Rattle.gx_told.specs.declared.fault.ToldFault.TheVariants as told
use Rattle.gx.specs.declared.fault.RunFault.{RunFault}
use Rattle.gx.specs.declared.fault.RunFault.TheVariants.{Command, LockFailed, LongName, StoreChanged, BadStamp, RandomFailed, Damaged, NotSmall, ManyObjects, EmptyBundle, Item}

-- the line of a refusal, without its line feed
abbrev pub line_of : RunFault → List ℕ
line_of (Command fault) = command.line_of fault
line_of LockFailed = codes "gx: lock failed"
line_of LongName = codes "gx: name too long"
line_of StoreChanged = codes "gx: store changed"
line_of BadStamp = codes "gx: bad stamp"
line_of RandomFailed = codes "gx: random bytes failed"
line_of Damaged = codes "gx: store: Damaged"
line_of NotSmall = codes "gx: no small repository"
line_of ManyObjects = codes "gx: bundle: Unsupported"
line_of EmptyBundle = codes "gx: bundle: Empty"
line_of (Item number word) = codes "gx: object " ++ decimal number ++ codes ": " ++ word.now

-- why a run is refused that can't look into its store
abbrev pub of_look : LookFault → RunFault
of_look look.OutOfMemory = Command cli.OutOfMemory
of_look look.ReadFailed = Command cli.ReadFailed
of_look look.Damaged = Damaged

-- why a run is refused that keeps a part of its store
abbrev pub of_kept : KeptFault → RunFault
of_kept kept.OutOfMemory = Command cli.OutOfMemory
of_kept kept.ReadFailed = Command cli.ReadFailed
of_kept kept.Damaged = Damaged
of_kept kept.WriteFailed = Command cli.WriteFailed

-- why a run is refused that writes a bundle
abbrev pub of_bundle : BundleFault → RunFault
of_bundle Unsupported = ManyObjects
of_bundle (Stopped fault) = of_kept fault

-- why a run is refused that is asked for range words, by the number of the first that is refused
abbrev pub of_word : ℕ → AskFault → RunFault
of_word word ask.OutOfMemory = Command cli.OutOfMemory
of_word word ask.ReadFailed = Command cli.ReadFailed
of_word word ask.Damaged = Damaged
of_word word (ask.Revision kind) = Command (cli.Revision word kind)

abbrev pub of_range : RangeFault → RunFault
of_range fault = of_word fault.word fault.kind

-- why a run is refused whose question is
abbrev pub of_told : ToldFault → RunFault
of_told told.OutOfMemory = Command cli.OutOfMemory
of_told told.StoreReadFailed = Command cli.ReadFailed
of_told told.Damaged = Damaged
of_told told.ReadFailed = Command cli.ReadFailed
of_told told.WriteFailed = Command cli.WriteFailed
of_told (told.Revision number kind) = Command (cli.Revision number kind)

-- why a run is refused whose export looks into its store
abbrev pub of_changes : ChangesFault → RunFault
of_changes changes.OutOfMemory = Command cli.OutOfMemory
of_changes changes.ReadFailed = Command cli.ReadFailed
of_changes changes.Damaged = Damaged
of_changes (changes.WriteFailed written) = Command (cli.Export (export.WriteFailed written))
of_changes changes.Unsupported = Command (cli.Export export.Unsupported)
of_changes (changes.Word number kind) = Command (cli.Revision number kind)
