-- Why changes of refs are refused.
use Rattle.std.proofs.Common.{◌≡◌, Bool, true, false, not, if◌then◌else◌, List, [], ◌∷◌, Option, Some, None, is_some, Result, Ok, Err, OnErr, IsErrAnd, refl, sym, ap, ◌∙◌}
use Rattle.std.specs.Option.{option_or}
use Rattle.gx_model.specs.declared.faults.Fault.{Fault}
use Rattle.gx_model.specs.declared.faults.Fault.TheVariants as model
use Rattle.gx_model.specs.Texts.RefNames.{is_ref_name}
use Rattle.gx_model.specs.Histories.{Record, Records}
use Rattle.gx_model.specs.Records.Growth.{record_named}
use Rattle.gx_model.specs.Stores.StoreReading.{is_target}
use Rattle.gx_model.specs.Faults.{IsFaultOf, unless}
use Rattle.gx_repo.specs.declared.fault.PublishFault.{PublishFault}
use Rattle.gx_repo.specs.declared.fault.PublishFault.TheVariants.{OutOfMemory}
use Rattle.gx_repo.specs.declared.fault.PublishFault.TheVariants as faults
use Rattle.gx_repo.specs.Publishing.{HidesNoRefusal, fault_of}
use Rattle.gx_repo.specs.Refs.{are_held}
use Rattle.gx_model.specs.Records.Publishing.{Change, change_fault, changes_fault, published, with_changes}

-- what is refused is refused by the first fault
pub refused : (r : Records) (changes : List Change) (fault : PublishFault) → changes_fault r.records changes ≡ Some (fault_of fault) → IsFaultOf (fault_of fault) (published r changes)
unfolding published
refused r changes OutOfMemory e = tt
refused r changes faults.BadRefName e = ap (λ f. unless f (with_changes r.refs changes)) e
refused r changes faults.UnknownObject e = ap (λ f. unless f (with_changes r.refs changes)) e
refused r changes faults.WrongKind e = ap (λ f. unless f (with_changes r.refs changes)) e

-- what isn't refused is set
pub not_refused : (r : Records) (changes : List Change) → changes_fault r.records changes ≡ None → published r changes ≡ Ok (with_changes r.refs changes)
unfolding published
not_refused r changes e = ap (λ f. unless f (with_changes r.refs changes)) e

-- want of memory is against no change
never_memory : (records : List Record) (changes : List Change) → changes_fault records changes ≡ Some model.OutOfMemory → ⊥
never_memory records [] e = absurd (cc)
never_memory records (c ∷ cs) e = by (never_memory records cs) (change_fault records c) refl e
  where
    one : (named held fits : Bool)
        → (if not named then Some model.BadRefName else (if not held then Some model.UnknownObject
        else (if not fits then Some model.WrongKind else None))) ≡ Some model.OutOfMemory → ⊥
    one false held fits e = absurd (cc)
    one true false fits e = absurd (cc)
    one true true false e = absurd (cc)
    one true true true e = absurd (cc)

    by : (changes_fault records cs ≡ Some model.OutOfMemory → ⊥) → (first : Option Fault) → change_fault records c ≡ first
        → option_or first (changes_fault records cs) ≡ Some model.OutOfMemory → ⊥
    by others None f e = others e
    by others (Some fault) f e = one (is_ref_name c.0) (is_some (record_named records c.1)) (is_target c.0 (record_named records c.1)) (f ∙ e)

-- a refusal of the first change hides nothing
pub told : (r : Records) (changes : List Change) (fault : PublishFault) (answer : Result (Unit {0}) PublishFault) → IsErrAnd answer (λ y. y ≡ fault)
    → changes_fault r.records changes ≡ Some (fault_of fault) → HidesNoRefusal r changes answer
told r changes fault (Ok done) e against = absurd e
told r changes fault (Err y) e against = of y (against ∙ ap (λ z. Some (fault_of z)) (sym e))
  where
    of : (y : PublishFault) → changes_fault r.records changes ≡ Some (fault_of y) → HidesNoRefusal r changes (Err y)
    of OutOfMemory k = absurd (never_memory r.records changes k)
    of faults.BadRefName k = tt
    of faults.UnknownObject k = tt
    of faults.WrongKind k = tt

-- and where none is refused, and a ref isn't held, nothing is hidden
pub nothing_hidden : (r : Records) (changes : List Change) → changes_fault r.records changes ≡ None → are_held r.refs changes ≡ false
    → (answer : Result (Unit {0}) PublishFault) → HidesNoRefusal r changes answer
nothing_hidden r changes free missing (Ok done) = tt
nothing_hidden r changes free missing (Err OutOfMemory) = (free, missing)
nothing_hidden r changes free missing (Err faults.BadRefName) = tt
nothing_hidden r changes free missing (Err faults.UnknownObject) = tt
nothing_hidden r changes free missing (Err faults.WrongKind) = tt

-- what holds anyhow holds where a call is refused
pub if_refused : {X E P : Type 0} (answer : Result X E) → P → OnErr answer P
if_refused (Ok x) p = tt
if_refused (Err e) p = p
