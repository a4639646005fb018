-- The faults of commands among those of the model, what they print, and those that items and texts bring.
use Rattle.gx_model.specs.Texts.{Bytes}
use Rattle.gx_model.specs.Faults.FaultWords.{word_of}
use Rattle.gx_model.specs.declared.faults.Fault.{Fault}
use Rattle.gx_model.specs.declared.faults.Fault.TheVariants as model
use Rattle.gx_stream.specs.declared.fault.StreamFault.{StreamFault}
use Rattle.gx_stream.specs.declared.fault.StreamFault.TheVariants as stream
use Rattle.gx_text.specs.declared.fault.TextFault.{TextFault}
use Rattle.gx_text.specs.declared.fault.TextFault.TheVariants as text
use Rattle.gx_command.specs.declared.fault.CommandFault.{CommandFault}
use Rattle.gx_command.specs.declared.fault.CommandFault.TheVariants.{OutOfMemory, ReadFailed, TruncatedData, BadNumber, UnknownCommand, BadLine, BadPath, PathTooLong, BadMode, BadIdent, BadRefName, Unsupported, LateOption, MissingDone}

abbrev pub fault_of : CommandFault → Fault
fault_of OutOfMemory = model.OutOfMemory
fault_of ReadFailed = model.ReadFailed
fault_of TruncatedData = model.TruncatedData
fault_of BadNumber = model.BadNumber
fault_of UnknownCommand = model.UnknownCommand
fault_of BadLine = model.BadLine
fault_of BadPath = model.BadPath
fault_of PathTooLong = model.PathTooLong
fault_of BadMode = model.BadMode
fault_of BadIdent = model.BadIdent
fault_of BadRefName = model.BadRefName
fault_of Unsupported = model.Unsupported
fault_of LateOption = model.LateOption
fault_of MissingDone = model.MissingDone

-- the word that a fault prints
abbrev pub word : CommandFault → Bytes
word fault = word_of (fault_of fault)

abbrev pub of_stream : StreamFault → CommandFault
of_stream stream.OutOfMemory = OutOfMemory
of_stream stream.ReadFailed = ReadFailed
of_stream stream.TruncatedData = TruncatedData
of_stream stream.BadNumber = BadNumber

abbrev pub of_text : TextFault → CommandFault
of_text text.OutOfMemory = OutOfMemory
of_text text.BadPath = BadPath
of_text text.PathTooLong = PathTooLong
of_text text.BadIdent = BadIdent
