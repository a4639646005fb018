-- The faults of store texts, as they are printed. Source: this project's own format.
use Rattle.std.specs.Prelude.{codes}
use Rattle.gx_model.specs.Texts.{Bytes}
use Rattle.gx_model.specs.declared.store_faults.FileFault.{FileFault}
use Rattle.gx_model.specs.declared.store_faults.FileFault.TheVariants.{OutOfMemory, BadMagic, BadVersion, Truncated, BadRecord, NameMismatch, DuplicateObject, Dangling, BadObject, BadRef, RefOrder, TrailingBytes}

-- the word that a fault prints
abbrev pub word : FileFault → Bytes
word OutOfMemory = codes "OutOfMemory"
word BadMagic = codes "BadMagic"
word BadVersion = codes "BadVersion"
word Truncated = codes "Truncated"
word BadRecord = codes "BadRecord"
word NameMismatch = codes "NameMismatch"
word DuplicateObject = codes "DuplicateObject"
word Dangling = codes "Dangling"
word BadObject = codes "BadObject"
word BadRef = codes "BadRef"
word RefOrder = codes "RefOrder"
word TrailingBytes = codes "TrailingBytes"
