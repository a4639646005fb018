-- The blobs of a stream are those of its commands.
use Rattle.std.specs.Prelude.{◌≡◌, Bool, true, false, List, [], ◌∷◌, ◌++◌, map, Option, Some, None}
use Rattle.gx_model.specs.Texts.{Bytes}
use Rattle.gx_model.specs.declared.faults.Fault.{Fault}
use Rattle.gx_model.specs.Streams.Items.{Stream}
use Rattle.gx_model.specs.Streams.Commands.{BlobParts, Command, Commands, Blob, Commit, Tag, Reset, Checkpoint, Progress, Asks, OptionLine, Done}
use Rattle.gx_model.specs.Streams.Grammar.{commands_of, stops}
use Rattle.gx_blobs.specs.Blobs.{BlobRun, Stop, refused, not_a_blob, blobs_of}

-- a blob's bytes
abbrev pub bytes_of : BlobParts → Bytes
bytes_of blob = blob.bytes

-- some blob commands, and then these
abbrev pub blobs_first : List BlobParts → Commands → Commands
blobs_first blobs rest = record { list = map Blob blobs ++ rest.list; fault = rest.fault }

abbrev pub is_blob : Command → Bool
is_blob (Blob b) = true
is_blob (Commit c) = false
is_blob (Tag t) = false
is_blob (Reset r) = false
is_blob Checkpoint = false
is_blob (Progress x) = false
is_blob (Asks f) = false
is_blob (OptionLine x) = false
is_blob Done = false

-- commands of which the first is no blob, or none, where there is a fault
abbrev pub BeginsNoBlob : List Command → Option Fault → Type 0
BeginsNoBlob [] fault = (why : Fault) × (fault ≡ Some why)
BeginsNoBlob (c ∷ cs) fault = is_blob c ≡ false

-- What comes behind the blobs, by why no further one is listed: nothing, the fault of the commands, or something else than a blob.
abbrev pub StopsAt : Option Stop → Commands → Type 0
StopsAt None rest = rest ≡ stops None
StopsAt (Some (refused fault)) rest = rest ≡ stops (Some fault)
StopsAt (Some not_a_blob) rest = BeginsNoBlob rest.list rest.fault

-- commands begin with these blobs, and with no further one
pub record BeginWith (run : BlobRun) (commands : Commands) : Type 0 where
  pub blobs : List BlobParts
  pub rest : Commands
  pub comes : commands ≡ blobs_first blobs rest
  pub bodies : run.bodies ≡ map bytes_of blobs
  pub stop : StopsAt run.stop rest

-- The blobs that are listed are the first commands of the stream, up to the first that is none, or to a fault.
abbrev pub BlobsAreCommands : Type 0
BlobsAreCommands = (s : Stream) → BeginWith (blobs_of s) (commands_of s)
