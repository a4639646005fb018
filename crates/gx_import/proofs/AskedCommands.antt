-- Commands that ask for nothing have no fault of a reference.
use Rattle.std.proofs.Common.{◌≡◌, Option, None, Result, Ok, Err, inl, inr, ap}
use Rattle.std.specs.Prelude.{false, IfErr}
use Rattle.gx_model.specs.declared.faults.Fault.{Fault}
use Rattle.gx_model.specs.declared.objects.Kind.{Kind}
use Rattle.gx_model.specs.Texts.{Bytes}
use Rattle.gx_model.specs.Texts.Sinks.{Taken}
use Rattle.gx_model.specs.Histories.{Records}
use Rattle.gx_model.specs.Replay.{State}
use Rattle.gx_import.specs.Answers.{AddsAs}
use Rattle.gx_import.specs.Asking.{Reference, TellsVainIn, is_of_reference}
use Rattle.gx_import.specs.Publishing.{Publishes}
use Rattle.gx_import.specs.Replaying.{Writes}
use Rattle.gx_import.specs.declared.explanation.Asked.{Asked}
use Rattle.gx_import.specs.declared.tables.Tables.{Tables}
use Rattle.gx_import.proofs.AskedReferences.{adds_free, none_vain}

-- a command that the model accepts
pub made_vain : {X Y A : Type 0} (Asks : Fault → Reference → Type 0) (told : Option (Asked A)) → told ≡ None → (clash : Type 0) (Is : Y → X → Type 0) (r : Result X Fault) (given : Result Y Fault) (y : Y) → given ≡ Ok y → AddsAs clash Is r given → TellsVainIn Asks r told
made_vain Asks told blank clash Is (Ok x) given y ok h = blank
made_vain Asks told blank clash Is (Err e) given y ok h = none_vain (Asks e) e told blank (adds_free clash Is e given h y ok)

-- the text of a progress
pub written_vain : {A : Type 0} (Asks : Fault → Reference → Type 0) (told : Option (Asked A)) → told ≡ None → (was now : Option Taken) (text : Bytes) (r : Result (Unit {0}) Fault) → Writes was now text r → TellsVainIn Asks r told
written_vain Asks told blank was now text (Ok x) h = blank
written_vain Asks told blank was now text (Err e) h = none_vain (Asks e) e told blank (ap is_of_reference h.0)

-- a checkpoint
pub published_free : {A : Type 0} (name : Kind → Bytes → Bytes) (s : State) (new : Records) (now : Tables A) (r : Result (Unit {0}) Fault) → Publishes name s new now r → IfErr r (λ e. is_of_reference e ≡ false)
published_free name s new now (Ok x) h = tt
published_free name s new now (Err e) h = elim h as (λ _. is_of_reference e ≡ false) [ inl k ↦ ap is_of_reference k | inr k ↦ ap is_of_reference k.0 ]
