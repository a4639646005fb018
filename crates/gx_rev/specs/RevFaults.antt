-- The faults of revisions among those of the model, and those that paths bring; what they print, and where memory may run out.
use Rattle.std.specs.Prelude.{◌≡◌, ◌⊎◌, ◌++◌, codes, IfErr, IsOk, Result, Ok, Err}
use Rattle.std.specs.Fmt.{decimal}
use Rattle.gx_model.specs.declared.faults.Fault.{Fault}
use Rattle.gx_model.specs.declared.faults.Fault.TheVariants as model
use Rattle.gx_model.specs.Faults.{Given}
use Rattle.gx_model.specs.Texts.{Bytes}
use Rattle.gx_text.specs.declared.fault.TextFault.{TextFault}
use Rattle.gx_text.specs.declared.fault.TextFault.TheVariants as text
use Rattle.gx_rev.specs.declared.fault.RevFault.{RevFault}
use Rattle.gx_rev.specs.declared.fault.RevFault.TheVariants.{OutOfMemory, BadRevision, BadPath, PathTooLong, UnknownRef, UnknownObject, Ambiguous, NoParent, WrongKind, NoSuchPath}
use Rattle.gx_rev.specs.declared.fault.WalkFault.{WalkFault}

abbrev pub fault_of : RevFault → Fault
fault_of OutOfMemory = model.OutOfMemory
fault_of BadRevision = model.BadRevision
fault_of BadPath = model.BadPath
fault_of PathTooLong = model.PathTooLong
fault_of UnknownRef = model.UnknownRef
fault_of UnknownObject = model.UnknownObject
fault_of Ambiguous = model.Ambiguous
fault_of NoParent = model.NoParent
fault_of WrongKind = model.WrongKind
fault_of NoSuchPath = model.NoSuchPath

abbrev pub of_text : TextFault → RevFault
of_text text.OutOfMemory = OutOfMemory
of_text text.BadPath = BadPath
of_text text.PathTooLong = PathTooLong
of_text text.BadIdent = BadRevision

-- memory may want only where something is given: a fault is answered whatever memory there is
abbrev pub FaultsComeFirst : {A B : Type 0} → Result A RevFault → Given B → Type 0
FaultsComeFirst result given = IfErr result (λ fault. fault ≡ OutOfMemory → IsOk given)

-- an answer with no fault but want of memory
abbrev pub WantsOnly : {X : Type 0} → Result X RevFault → Type 0
WantsOnly answer = IfErr answer (λ fault. fault ≡ OutOfMemory)

-- the values of two answers; or the first fault, where want of memory gives way to a fault behind it
abbrev pub AreBoth : {X Y : Type 0} → Result X RevFault → Result Y RevFault → Result (X × Y) RevFault → Type 0
AreBoth first second (Ok values) = (first ≡ Ok values.0) × (second ≡ Ok values.1)
AreBoth first second (Err OutOfMemory) = WantsOnly first × WantsOnly second
AreBoth first second (Err fault) = (first ≡ Err fault) ⊎ (WantsOnly first × (second ≡ Err fault))

-- the word that a fault prints
abbrev pub word : RevFault → Bytes
word OutOfMemory = codes "OutOfMemory"
word BadRevision = codes "BadRevision"
word BadPath = codes "BadPath"
word PathTooLong = codes "PathTooLong"
word UnknownRef = codes "UnknownRef"
word UnknownObject = codes "UnknownObject"
word Ambiguous = codes "Ambiguous"
word NoParent = codes "NoParent"
word WrongKind = codes "WrongKind"
word NoSuchPath = codes "NoSuchPath"

-- what a refused walk prints: the word's number, and the fault's word
abbrev pub refusal : WalkFault → Bytes
refusal fault = codes "revision " ++ decimal fault.word ++ codes ": " ++ word fault.kind
