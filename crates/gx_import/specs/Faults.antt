-- What the fault of an import prints.
use Rattle.std.specs.Prelude.{◌++◌, codes}
use Rattle.std.specs.Fmt.{decimal}
use Rattle.gx_model.specs.Texts.{Bytes}
use Rattle.gx_model.specs.Faults.FaultWords.{word_of}
use Rattle.gx_import.specs.declared.fault.ImportFault.{ImportFault}

-- the number of the command, and the word of what is wrong with it
abbrev pub refusal : ImportFault → Bytes
refusal fault = codes "command " ++ decimal fault.command ++ codes ": " ++ word_of fault.kind
