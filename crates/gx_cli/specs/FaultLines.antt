-- What a refused command prints on standard error. Source: this project's own.
use Rattle.std.specs.Prelude.{◌++◌, codes}
use Rattle.std.specs.Fmt.{decimal}
use Rattle.gx_model.specs.Texts.{Bytes}
use Rattle.gx_model.specs.Faults.FaultWords.{word_of}
use Rattle.gx_model.specs.Faults.StoreFaults as store
use Rattle.gx_adapt.specs.AdaptFaults as adapt
use Rattle.gx_blobs.specs.BlobsFaults as blobs
use Rattle.gx_export.specs.Faults as export
use Rattle.gx_push.specs.Faults as refs
use Rattle.gx_rev.specs.RevFaults as rev
use Rattle.gx_where.specs.Faults as place
use Rattle.gx_cli.specs.declared.fault.CliFault.{CliFault}
use Rattle.gx_cli.specs.declared.fault.CliFault.TheVariants.{Adapt, BadFormat, BadRows, Blobs, Export, Import, Keep, OutOfMemory, Push, ReadFailed, Ref, Revision, Store, StoreExists, Where, WriteFailed}

-- the line of a refusal, without its line feed
abbrev pub line_of : CliFault → Bytes
line_of (Blobs fault) = codes "gx: " ++ blobs.refusal fault
line_of (Import fault) = codes "gx: command " ++ decimal fault.command ++ codes ": " ++ word_of fault.kind
line_of (Revision number kind) = codes "gx: revision " ++ decimal number ++ codes ": " ++ rev.word kind
line_of (Push number kind) = codes "gx: push " ++ decimal number ++ codes ": " ++ refs.word kind
line_of (Ref number kind) = codes "gx: ref " ++ decimal number ++ codes ": " ++ refs.word kind
line_of (Store fault) = codes "gx: store: " ++ store.word fault
line_of BadRows = codes "gx: store: BadRows"
line_of (Export fault) = codes "gx: export: " ++ export.word fault
line_of (Adapt fault) = codes "gx: adapt: " ++ word_of (adapt.fault_of fault)
line_of (Where fault) = codes "gx: where: " ++ place.refusal fault
line_of (Keep number) = codes "gx: keep " ++ decimal number ++ codes ": BadLine"
line_of BadFormat = codes "gx: BadFormat"
line_of StoreExists = codes "gx: store exists"
line_of ReadFailed = codes "gx: read failed"
line_of WriteFailed = codes "gx: write failed"
line_of OutOfMemory = codes "gx: out of memory"
