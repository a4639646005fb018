-- How a call's answer goes with what a definition gives, and steps that may be refused.
-- Source: this project's own.
pub mod FaultWords
pub mod StoreFaults
use Rattle.std.specs.Prelude.{◌≡◌, ◌≢◌, Option, Some, None, Result, Ok, Err, IfErr}
use Rattle.gx_model.specs.declared.faults.Fault.{Fault}
use Rattle.gx_model.specs.declared.faults.Fault.TheVariants.{OutOfMemory}

-- A fault is the definition's. Want of memory isn't: it may be answered whatever the definition gives.
abbrev pub IsFaultOf : {Y : Type 0} → Fault → Result Y Fault → Type 0
IsFaultOf OutOfMemory given = Unit {0}
IsFaultOf f given = given ≡ Err f

-- An answer, seen so, is what the definition gives, unless memory ran out.
abbrev pub Gives : {X Y E : Type 0} → (E → Fault) → (X → Y) → Result X E → Result Y Fault → Type 0
Gives fault view (Ok x) given = given ≡ Ok (view x)
Gives fault view (Err e) given = IsFaultOf (fault e) given

-- an answer for which no memory is taken: want of it, as its own faults call it, is none of them
abbrev pub NeedsNoMemory : {X E : Type 0} → E → Result X E → Type 0
NeedsNoMemory want answer = IfErr answer (λ fault. fault ≢ want)

-- what a part gives, or the fault
abbrev pub Given : Type 0 → Type 0
Given A = Result A Fault

-- the first step, and with what it gives the second; or the first fault
infixl 10 ◌>>=◌
abbrev pub ◌>>=◌ : {A B E : Type 0} → Result A E → (A → Result B E) → Result B E
Ok x >>= f = f x
Err e >>= f = Err e

-- a value, unless there is a fault
abbrev pub unless : {A : Type 0} → Option Fault → A → Result A Fault
unless None x = Ok x
unless (Some f) x = Err f
