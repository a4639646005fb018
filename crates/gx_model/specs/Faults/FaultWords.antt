-- The word that each fault prints, and its number. Source: this project's own format.
use Rattle.std.specs.Prelude.{ℕ, codes}
use Rattle.gx_model.specs.Texts.{Bytes}
use Rattle.gx_model.specs.declared.faults.Fault.{Fault}
use Rattle.gx_model.specs.declared.faults.Fault.TheVariants.{OutOfMemory, ReadFailed, WriteFailed, UnknownCommand, BadLine, BadNumber, TruncatedData, BadPath, PathTooLong, BadMode, BadIdent, BadRefName, UnknownMark, WrongKind, UnknownObject, NoSuchPath, RootNotTree, FromItself, EmptyBranch, Unsupported, LateOption, MissingDone, NotFastForward, NameHeld, BadRevision, UnknownRef, Ambiguous, NoParent}

abbrev pub word_of : Fault → Bytes
word_of OutOfMemory = codes "OutOfMemory"
word_of ReadFailed = codes "ReadFailed"
word_of WriteFailed = codes "WriteFailed"
word_of UnknownCommand = codes "UnknownCommand"
word_of BadLine = codes "BadLine"
word_of BadNumber = codes "BadNumber"
word_of TruncatedData = codes "TruncatedData"
word_of BadPath = codes "BadPath"
word_of PathTooLong = codes "PathTooLong"
word_of BadMode = codes "BadMode"
word_of BadIdent = codes "BadIdent"
word_of BadRefName = codes "BadRefName"
word_of UnknownMark = codes "UnknownMark"
word_of WrongKind = codes "WrongKind"
word_of UnknownObject = codes "UnknownObject"
word_of NoSuchPath = codes "NoSuchPath"
word_of RootNotTree = codes "RootNotTree"
word_of FromItself = codes "FromItself"
word_of EmptyBranch = codes "EmptyBranch"
word_of Unsupported = codes "Unsupported"
word_of LateOption = codes "LateOption"
word_of MissingDone = codes "MissingDone"
word_of NotFastForward = codes "NotFastForward"
word_of NameHeld = codes "NameHeld"
word_of BadRevision = codes "BadRevision"
word_of UnknownRef = codes "UnknownRef"
word_of Ambiguous = codes "Ambiguous"
word_of NoParent = codes "NoParent"

abbrev pub number_of : Fault → ℕ
number_of OutOfMemory = 1
number_of ReadFailed = 2
number_of WriteFailed = 3
number_of UnknownCommand = 4
number_of BadLine = 5
number_of BadNumber = 6
number_of TruncatedData = 7
number_of BadPath = 8
number_of PathTooLong = 9
number_of BadMode = 10
number_of BadIdent = 11
number_of BadRefName = 12
number_of UnknownMark = 13
number_of WrongKind = 14
number_of UnknownObject = 15
number_of NoSuchPath = 16
number_of RootNotTree = 17
number_of FromItself = 18
number_of EmptyBranch = 19
number_of Unsupported = 20
number_of LateOption = 21
number_of MissingDone = 22
number_of NotFastForward = 23
number_of NameHeld = 24
number_of BadRevision = 25
number_of UnknownRef = 26
number_of Ambiguous = 27
number_of NoParent = 28
