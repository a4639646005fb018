-- What is told where a segment isn't appended.
use Rattle.std.specs.Prelude.{⊤}
use Rattle.gx_append.specs.Appending as appends
use Rattle.gx_additions.specs.declared.fault.AdditionFault.{AdditionFault}
use Rattle.gx_additions.specs.declared.fault.AdditionFault.TheVariants.{OutOfMemory, ReadFailed, Append}

-- nothing of the segment is part of the text
abbrev pub IsUnwritten : AdditionFault → Type 0
IsUnwritten OutOfMemory = ⊤
IsUnwritten ReadFailed = ⊤
IsUnwritten (Append fault) = appends.IsUnwritten fault

-- the device failed while it was written
abbrev pub IsOfDevice : AdditionFault → Type 0
IsOfDevice OutOfMemory = ⊥
IsOfDevice ReadFailed = ⊥
IsOfDevice (Append fault) = ⊤
