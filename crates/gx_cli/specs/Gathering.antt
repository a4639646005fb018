-- What the commands answer that read a source alone, with their faults among those of the commands.
use Rattle.std.specs.Prelude.{◌≡◌, ℕ, Bool, true, false, List, map, Option, Some, None, Result, Ok, Err, ⊤}
use Rattle.std.specs.Option.{option_map}
use Rattle.std.specs.Result.{result_map_both}
use Rattle.std.specs.declared.vec.Vec.{Vec}
use Rattle.gx_model.specs.Texts.{Bytes}
use Rattle.gx_model.specs.Texts.Sinks.{Taken}
use Rattle.gx_text.specs.Devices.{Coming}
use Rattle.gx_stream.specs.Heard.{heard, items_from}
use Rattle.gx_adapt.specs.Adapting.{AdaptsFrom}
use Rattle.gx_adapt.specs.declared.adapting.Adapted.{Adapted}
use Rattle.gx_adapt.specs.declared.fault.AdaptFault.{AdaptFault}
use Rattle.gx_archive.specs.declared.fault.ArchiveFault.{ArchiveFault}
use Rattle.gx_archive.specs.declared.fault.ArchiveFault.TheVariants as archive
use Rattle.gx_batch.specs.Lines.{lines_from}
use Rattle.gx_batch.specs.declared.ending.LineEnding.TheVariants.{Lf}
use Rattle.gx_batch.specs.declared.fault.BatchFault.{BatchFault}
use Rattle.gx_batch.specs.declared.fault.BatchFault.TheVariants as batch
use Rattle.gx_batch.specs.declared.fault.FormatFault.{FormatFault}
use Rattle.gx_batch.specs.declared.fault.FormatFault.TheVariants as format
use Rattle.gx_growing.specs.declared.fault.GrowingFault.{GrowingFault}
use Rattle.gx_growing.specs.declared.fault.GrowingFault.TheVariants as growing
use Rattle.gx_push.specs.declared.fault.PushFault.{PushFault}
use Rattle.gx_push.specs.declared.fault.PushFault.TheVariants as push
use Rattle.gx_push.specs.declared.fault.SetFault.{SetFault}
use Rattle.gx_push.specs.declared.fault.SetFault.TheVariants as set
use Rattle.gx_cli.specs.Words.{refused_at}
use Rattle.gx_cli.specs.declared.fault.CliFault.{CliFault}
use Rattle.gx_cli.specs.declared.fault.CliFault.TheVariants.{Adapt, BadFormat, BadRows, Import, OutOfMemory, Push, ReadFailed, Ref, Store, WriteFailed}

-- a source's stream goes out adapted, by whether signatures are dropped
abbrev pub AdaptsStream : {A : Type 0} → Bool → Option Coming → Option Taken → Option Taken → Result (Adapted A) CliFault → Type 0
AdaptsStream {A} drops coming was now r =
    (answer : Result (Adapted A) AdaptFault) × AdaptsFrom drops (option_map items_from coming) was now answer × (r ≡ result_map_both (λ adapted. adapted) Adapt answer)

-- ---- faults of other crates, among those of the commands

-- a fault of `batch` among those of the commands
abbrev pub of_batch : BatchFault → CliFault
of_batch batch.OutOfMemory = OutOfMemory
of_batch batch.ReadFailed = ReadFailed
of_batch batch.WriteFailed = WriteFailed

-- a fault of a format among those of the commands
abbrev pub of_format : FormatFault → CliFault
of_format format.OutOfMemory = OutOfMemory
of_format format.BadFormat = BadFormat

-- a fault of an archive among those of the commands; the revision is the only word
abbrev pub of_archive : ArchiveFault → CliFault
of_archive (archive.Revision kind) = refused_at 1 kind
of_archive archive.WriteFailed = WriteFailed
of_archive archive.OutOfMemory = OutOfMemory

-- a fault of a store's text of any version among those of the commands
abbrev pub of_growing : GrowingFault → CliFault
of_growing (growing.Text fault) = Store fault
of_growing growing.BadRows = BadRows

-- a fault of a push among those of the commands
abbrev pub of_push : PushFault → CliFault
of_push (push.Line number kind) = Push number kind
of_push (push.Import fault) = Import fault
of_push push.OutOfMemory = OutOfMemory

-- a fault of refs that are set among those of the commands
abbrev pub of_set : SetFault → CliFault
of_set (set.Line number kind) = Ref number kind
of_set set.OutOfMemory = OutOfMemory

-- ---- all of a source

-- this is all that a source gives, up to its end; of one that tells nothing, nothing is claimed
abbrev pub IsAllOf : Option Coming → Bytes → Type 0
IsAllOf None text = ⊤
IsAllOf (Some c) text = (text ≡ c.bytes) × (c.fails ≡ false)

-- a source ends with a failure
abbrev pub EndsBadly : Option Coming → Type 0
EndsBadly None = ⊤
EndsBadly (Some c) = c.fails ≡ true

-- why there isn't all of a source
abbrev pub IsUngathered : Option Coming → CliFault → Type 0
IsUngathered coming ReadFailed = EndsBadly coming
IsUngathered coming OutOfMemory = ⊤
IsUngathered coming fault = ⊥

-- all of a source, or why there isn't all of it
abbrev pub Gathers : {A : Type 0} → Option Coming → Result (Vec ℕ A) CliFault → Type 0
Gathers coming (Ok text) = IsAllOf coming text.items
Gathers coming (Err fault) = IsUngathered coming fault

-- the same, where it is put into a text
abbrev pub GathersInto : Option Coming → Bytes → Result (Unit {0}) CliFault → Type 0
GathersInto coming text (Ok done) = IsAllOf coming text
GathersInto coming text (Err fault) = IsUngathered coming fault

-- ---- the lines of a source

-- the texts of lines
abbrev pub texts_of : {A : Type 0} → List (Vec ℕ A) → List Bytes
texts_of = map (λ line. line.items)

-- these lines, behind which a source ends or fails, or why there aren't all of them
abbrev pub AreLines : {A : Type 0} → List Bytes → Bool → Result (Vec (Vec ℕ A) A) CliFault → Type 0
AreLines lines fails (Ok read) = (fails ≡ false) × (map (λ line. line.items) read.items ≡ lines)
AreLines lines fails (Err ReadFailed) = fails ≡ true
AreLines lines fails (Err OutOfMemory) = ⊤
AreLines lines fails (Err fault) = ⊥

-- This holds of the lines of a source, and of whether it fails behind them. Where it tells nothing, they are those of some text.
abbrev pub OfLines : Option Coming → (List Bytes → Bool → Type 0) → Type 0
OfLines None holds = (c : Coming) × holds (lines_from Lf c) c.fails
OfLines (Some c) holds = holds (lines_from Lf (heard c)) (heard c).fails

-- the lines of a source, or why there aren't all of them
abbrev pub GathersLines : {A : Type 0} → Option Coming → Result (Vec (Vec ℕ A) A) CliFault → Type 0
GathersLines coming result = OfLines coming (λ lines fails. AreLines lines fails result)
