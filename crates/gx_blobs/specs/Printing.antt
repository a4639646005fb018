-- What printing the names of a stream's blobs gives.
use Rattle.std.specs.Prelude.{◌≡◌, ◌≢◌, ℕ, ◌+◌, ◌<◌, true, List, [], ◌∷◌, ◌++◌, length, take, Option, Some, None, Result, Ok, Err, ◌⊎◌, ⊤}
use Rattle.std.specs.List.{flat_map}
use Rattle.gx_model.specs.declared.objects.Kind.{Kind}
use Rattle.gx_model.specs.declared.objects.Kind.TheVariants as kind
use Rattle.gx_model.specs.declared.faults.Fault.TheVariants as fault
use Rattle.gx_model.specs.Texts.{Bytes}
use Rattle.gx_model.specs.Objects.{hex}
use Rattle.gx_model.specs.Streams.Items.{Stream}
use Rattle.gx_model.specs.Histories.{Record}
use Rattle.gx_model.specs.Records.Growth.{put, record_named}
use Rattle.gx_model.specs.Texts.Sinks.{Sends, Taken, Took}
use Rattle.gx_stream.specs.Reading.{AreOfText}
use Rattle.gx_stream.specs.declared.fault.StreamFault.{StreamFault}
use Rattle.gx_stream.specs.declared.fault.StreamFault.TheVariants as stream
use Rattle.gx_blobs.specs.Blobs.{Stop, refused, not_a_blob, BlobRun, blobs_of}
use Rattle.gx_blobs.specs.Steps as model
use Rattle.gx_blobs.specs.declared.blob_names.Step.{Step}
use Rattle.gx_blobs.specs.declared.blob_names.Step.TheVariants.{Stop as Halt, Go, Body}
use Rattle.gx_blobs.specs.declared.blob_names.BlobsKind.{BlobsKind}
use Rattle.gx_blobs.specs.declared.blob_names.BlobsKind.TheVariants as kinds
use Rattle.gx_blobs.specs.declared.blob_names.BlobsFault.{BlobsFault}

-- a name's digits and LF
abbrev pub name_line : Bytes → Bytes
name_line name = hex name ++ 10 ∷ []

-- why a stream's blobs stop, as it is answered
abbrev pub stop_of : BlobsKind → Stop
stop_of kinds.OutOfMemory = refused fault.OutOfMemory
stop_of kinds.ReadFailed = refused fault.ReadFailed
stop_of kinds.WriteFailed = refused fault.WriteFailed
stop_of kinds.BadLine = refused fault.BadLine
stop_of kinds.BadNumber = refused fault.BadNumber
stop_of kinds.TruncatedData = refused fault.TruncatedData
stop_of kinds.NameHeld = refused fault.NameHeld
stop_of kinds.NotABlob = not_a_blob

-- what an item does, as the code tells it
abbrev pub shown_step : Step → model.Step
shown_step (Halt k) = model.stop (stop_of k)
shown_step (Go stage) = model.go stage
shown_step (Body x) = model.body x.now

-- a fault of the items, as it is answered
abbrev pub of_stream : StreamFault → BlobsKind
of_stream stream.OutOfMemory = kinds.OutOfMemory
of_stream stream.ReadFailed = kinds.ReadFailed
of_stream stream.TruncatedData = kinds.TruncatedData
of_stream stream.BadNumber = kinds.BadNumber

-- how the names end behind so many: with the stream, or for this cause
abbrev pub ended_at : ℕ → Option BlobsKind → Result ℕ BlobsFault
ended_at count None = Ok count
ended_at count (Some kind) = Err (record { command = count + 1; kind = kind })

module _ (name : Kind → Bytes → Bytes) where
  -- a blob's name and LF
  abbrev pub blob_line : Bytes → Bytes
  blob_line x = name_line (name kind.Blob x)

  -- those of some blobs, in order
  abbrev pub printed : List Bytes → Bytes
  printed bodies = flat_map blob_line bodies

  -- a blob's record
  abbrev pub blob_record : Bytes → Record
  blob_record x = record { name = name kind.Blob x; kind = kind.Blob; body = x }

  -- One blob is put and printed. Where its name stands for another object, or for want of memory, nothing is printed. Memory is wanted only
  -- for a blob whose name isn't held.
  abbrev pub PrintsOne : List Record → List Record → Option Taken → Option Taken → Bytes → Result (Unit {0}) BlobsKind → Type 0
  PrintsOne old new was is x (Ok _) = (put old (blob_record x) ≡ Some new) × Sends was is (blob_line x) (Ok tt)
  PrintsOne old new was is x (Err kinds.OutOfMemory) = (record_named old (name kind.Blob x) ≡ None) × (new ≡ old) × (is ≡ was)
  PrintsOne old new was is x (Err kinds.NameHeld) = (put old (blob_record x) ≡ None) × (is ≡ was)
  PrintsOne old new was is x (Err kinds.WriteFailed) = (n : ℕ) × Sends was is (blob_line x) (Err n)
  PrintsOne old new was is x (Err kinds.ReadFailed) = ⊥
  PrintsOne old new was is x (Err kinds.BadLine) = ⊥
  PrintsOne old new was is x (Err kinds.BadNumber) = ⊥
  PrintsOne old new was is x (Err kinds.TruncatedData) = ⊥
  PrintsOne old new was is x (Err kinds.NotABlob) = ⊥

  -- x has the name of one of these blobs, which has other bytes
  abbrev pub Clashes : List Bytes → Bytes → Type 0
  Clashes [] x = ⊥
  Clashes (y ∷ ys) x = ((name kind.Blob y ≡ name kind.Blob x) × (y ≢ x)) ⊎ Clashes ys x

  -- the first blob that is left has the name of one before it, with other bytes
  abbrev pub IsHeldForOther : List Bytes → List Bytes → Type 0
  IsHeldForOther front [] = ⊥
  IsHeldForOther front (x ∷ rest) = Clashes front x

  -- the sink failed in the line of the first blob that is left
  abbrev pub FailsWithin : List Bytes → List Bytes → Option Taken → Option Taken → Type 0
  FailsWithin front [] was is = ⊥
  FailsWithin front (x ∷ rest) None is = ⊤
  FailsWithin front (x ∷ rest) (Some was) is = (n : ℕ) × (n < length (blob_line x)) × (is ≡ Some (record { bytes = (was.bytes ++ printed front) ++ take n (blob_line x); failed = true }))

  -- the sink took these names
  abbrev pub HasNames : List Bytes → Option Taken → Option Taken → Type 0
  HasNames front was is = Took was is (printed front)

  -- Why printing stops behind the first blobs: for the stream's own stop, for want of memory, for a name that is held
  -- for other bytes, or for a sink that fails in the middle of a line.
  abbrev pub Stops : List Bytes → List Bytes → Option Stop → Option Taken → Option Taken → BlobsKind → Type 0
  Stops front rest stop was is k =
      ((rest ≡ []) × (stop ≡ Some (stop_of k)) × HasNames front was is)
      ⊎ (((k ≡ kinds.OutOfMemory) × HasNames front was is)
      ⊎ (((k ≡ kinds.NameHeld) × IsHeldForOther front rest × HasNames front was is)
      ⊎ ((k ≡ kinds.WriteFailed) × FailsWithin front rest was is)))

  -- the names of all the blobs are printed, or of those before the one that is refused
  abbrev pub Prints : BlobRun → Option Taken → Option Taken → Result ℕ BlobsFault → Type 0
  Prints run was is (Ok n) = (run.stop ≡ None) × (n ≡ length run.bodies) × HasNames run.bodies was is
  Prints run was is (Err f) = (front : List Bytes) × (rest : List Bytes) × (run.bodies ≡ front ++ rest) × (f.command ≡ length front + 1) × Stops front rest run.stop was is f.kind

  -- the same of a stream's items; where its source tells nothing, of some that may be its
  abbrev pub PrintsItems : (Stream → Type 0) → Option Stream → Option Taken → Option Taken → Result ℕ BlobsFault → Type 0
  PrintsItems may None was is r = (s : Stream) × may s × Prints (blobs_of s) was is r
  PrintsItems may (Some s) was is r = Prints (blobs_of s) was is r

  -- the same of a source's; where it tells nothing, of those of some text
  abbrev pub PrintsBlobs : Option Stream → Option Taken → Option Taken → Result ℕ BlobsFault → Type 0
  PrintsBlobs items was is r = PrintsItems AreOfText items was is r
