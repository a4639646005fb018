-- What the faults of changed refs print.
use Rattle.std.specs.Prelude.{◌++◌, codes}
use Rattle.std.specs.Fmt.{decimal}
use Rattle.gx_model.specs.Texts.{Bytes}
use Rattle.gx_model.specs.Faults.FaultWords.{word_of}
use Rattle.gx_push.specs.declared.fault.RefFault.{RefFault}
use Rattle.gx_push.specs.declared.fault.RefFault.TheVariants.{BadLine, BadRefName, RefMoved, UnknownObject, WrongKind, NotFastForward}
use Rattle.gx_push.specs.declared.fault.PushFault.{PushFault}
use Rattle.gx_push.specs.declared.fault.PushFault.TheVariants.{Line, Import, OutOfMemory}
use Rattle.gx_push.specs.declared.fault.SetFault.{SetFault}
use Rattle.gx_push.specs.declared.fault.SetFault.TheVariants as set

-- the word that a fault prints
abbrev pub word : RefFault → Bytes
word BadLine = codes "BadLine"
word BadRefName = codes "BadRefName"
word RefMoved = codes "RefMoved"
word UnknownObject = codes "UnknownObject"
word WrongKind = codes "WrongKind"
word NotFastForward = codes "NotFastForward"

-- what a refusal prints
abbrev pub refusal : PushFault → Bytes
refusal (Line number kind) = codes "line " ++ decimal number ++ codes ": " ++ word kind
refusal (Import fault) = codes "command " ++ decimal fault.command ++ codes ": " ++ word_of fault.kind
refusal OutOfMemory = codes "out of memory"

-- the same where refs are set
abbrev pub set_refusal : SetFault → Bytes
set_refusal (set.Line number kind) = codes "line " ++ decimal number ++ codes ": " ++ word kind
set_refusal set.OutOfMemory = codes "out of memory"
