-- What the faults of naming blobs print.
use Rattle.std.specs.Prelude.{◌++◌, codes}
use Rattle.std.specs.Fmt.{decimal}
use Rattle.gx_model.specs.Texts.{Bytes}
use Rattle.gx_blobs.specs.declared.blob_names.BlobsFault.{BlobsFault}
use Rattle.gx_blobs.specs.declared.blob_names.BlobsKind.{BlobsKind}
use Rattle.gx_blobs.specs.declared.blob_names.BlobsKind.TheVariants.{OutOfMemory, ReadFailed, WriteFailed, BadLine, BadNumber, TruncatedData, NameHeld, NotABlob}

-- the word that a kind prints
abbrev pub word : BlobsKind → Bytes
word OutOfMemory = codes "OutOfMemory"
word ReadFailed = codes "ReadFailed"
word WriteFailed = codes "WriteFailed"
word BadLine = codes "BadLine"
word BadNumber = codes "BadNumber"
word TruncatedData = codes "TruncatedData"
word NameHeld = codes "NameHeld"
word NotABlob = codes "NotABlob"

-- what a fault prints
abbrev pub refusal : BlobsFault → Bytes
refusal fault = codes "command " ++ decimal fault.command ++ codes ": " ++ word fault.kind
