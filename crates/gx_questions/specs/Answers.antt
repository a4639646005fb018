-- What is answered to a question, in words of the repository that is told.
use Rattle.std.specs.Prelude.{◌≡◌, Bool, Option, None, Result, Ok, Err, IfErr, IfOk, IfSome, IsTrue, ⊤}
use Rattle.gx_model.specs.declared.faults.Fault.{Fault}
use Rattle.gx_model.specs.Faults.{Given}
use Rattle.gx_model.specs.Histories.{Records}
use Rattle.gx_objects.specs.declared.fault.LookFault.{LookFault}
use Rattle.gx_objects.specs.declared.fault.LookFault.TheVariants as look
use Rattle.gx_rev.specs.RevFaults.{fault_of}
use Rattle.gx_rev.specs.declared.fault.RevFault.{RevFault}
use Rattle.gx_rev.specs.declared.fault.RevFault.TheVariants as rev
use Rattle.gx_questions.specs.declared.fault.AskFault.{AskFault}
use Rattle.gx_questions.specs.declared.fault.AskFault.TheVariants.{OutOfMemory, ReadFailed, Damaged, Revision}

-- ---- faults

abbrev pub of_look : LookFault → AskFault
of_look look.OutOfMemory = OutOfMemory
of_look look.ReadFailed = ReadFailed
of_look look.Damaged = Damaged

-- want of memory is the same everywhere
abbrev pub of_revision : RevFault → AskFault
of_revision rev.OutOfMemory = OutOfMemory
of_revision fault = Revision fault

-- ---- answers

-- this holds of the repository that is told
abbrev pub IfTold : {X : Type 0} → Option Records → (Records → X → Type 0) → X → Type 0
IfTold told Fact x = IfSome told (λ r. Fact r x)

-- what is answered is so in the repository that is told
abbrev pub IsOfTold : {X : Type 0} → Option Records → (Records → X → Type 0) → Result X AskFault → Type 0
IsOfTold told Fact result = IfOk result (IfTold told Fact)

-- A fault is what is given of the repository that is told. Only of what tells none it is answered that it is damaged.
abbrev pub Refuses : {Y : Type 0} → Option Records → (Records → Given Y) → AskFault → Type 0
Refuses told given OutOfMemory = ⊤
Refuses told given ReadFailed = ⊤
Refuses told given Damaged = told ≡ None
Refuses told given (Revision fault) = IfSome told (λ r. given r ≡ Err (fault_of fault))

-- an answer, seen so, is what is given of the repository that is told
abbrev pub Answers : {X Y : Type 0} → Option Records → (Records → X → Y) → (Records → Given Y) → Result X AskFault → Type 0
Answers told view given (Ok x) = IfSome told (λ r. given r ≡ Ok (view r x))
Answers told view given (Err fault) = Refuses told given fault

-- what is asked for by a name that is held is refused for memory, for a read, or of what tells no repository
abbrev pub RefusesUntold : {X : Type 0} → Option Records → Result X AskFault → Type 0
RefusesUntold told (Ok x) = ⊤
RefusesUntold told (Err OutOfMemory) = ⊤
RefusesUntold told (Err ReadFailed) = ⊤
RefusesUntold told (Err Damaged) = told ≡ None
RefusesUntold told (Err (Revision fault)) = ⊥

-- a fault of what is asked, and not of memory or of a read
abbrev pub IsOfAsked : AskFault → Type 0
IsOfAsked OutOfMemory = ⊥
IsOfAsked ReadFailed = ⊥
IsOfAsked (Revision rev.OutOfMemory) = ⊥
IsOfAsked fault = ⊤

-- what is sure of its answers is asked without memory and without a read
abbrev pub NeedsNothing : {X : Type 0} → Bool → Result X AskFault → Type 0
NeedsNothing sure result = IsTrue sure → IfErr result IsOfAsked

-- a fault that needs no read
abbrev pub IsOfNoRead : AskFault → Type 0
IsOfNoRead ReadFailed = ⊥
IsOfNoRead fault = ⊤

-- of what is sure of its answers no read fails
abbrev pub NeverUnread : {X : Type 0} → Bool → Result X AskFault → Type 0
NeverUnread sure result = IsTrue sure → IfErr result IsOfNoRead

-- this fault is the one of a text
abbrev pub IsOfText : {X : Type 0} → Result X AskFault → Fault → Type 0
IsOfText result fault = IfErr result (λ refused. (of_text : RevFault) × (refused ≡ Revision of_text) × (fault_of of_text ≡ fault)) × IfOk result (λ x. ⊥)

-- a fault of the text is answered whatever is told
abbrev pub TextFaultsComeFirst : {X Y : Type 0} → Result X AskFault → Given Y → Type 0
TextFaultsComeFirst result read = IfErr read (IsOfText result)
