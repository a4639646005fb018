-- How the answer of a step goes with what the whole gives: a refusal of a part is one of the whole.
use Rattle.std.proofs.Common.{◌≡◌, Result, Ok, Err, ap, subst}
use Rattle.gx_model.specs.declared.faults.Fault.{Fault}
use Rattle.gx_model.specs.Faults.{IsFaultOf, ◌>>=◌}
use Rattle.gx_model.specs.Histories.{Record}
use Rattle.gx_model.specs.Records.Growth.{put, put_all}
use Rattle.std.specs.Prelude.{List, None}
use Rattle.gx_model.specs.Texts.{Bytes}
use Rattle.gx_store.specs.declared.fault.StoreFault.{StoreFault}
use Rattle.gx_store.specs.declared.fault.StoreFault.TheVariants as store
use Rattle.gx_repo.specs.Additions.{Adds, AddsAll}
use Rattle.gx_model.specs.declared.faults.Fault.TheVariants.{OutOfMemory, NameHeld}
use Rattle.gx_import.specs.Answers.{AddsAs}
use Rattle.gx_store.specs.StoreFaults.{fault_of as of_store}
use Rattle.gx_import.proofs.Refusals.{IsAnswer}

-- what is said of a part, where its clash is one of the whole
pub adds_more : {X Y : Type 0} (clash other : Type 0) (Is Be : Y → X → Type 0) → (clash → other) → ((y : Y) (x : X) → Is y x → Be y x) → (result : Result X Fault) (given : Result Y Fault)
    → AddsAs clash Is result given → AddsAs other Be result given
adds_more clash other Is Be f k (Ok x) given h = (h.0, h.1, k h.0 x h.2)
adds_more clash other Is Be f k (Err OutOfMemory) given h = tt
adds_more clash other Is Be f k (Err NameHeld) given h = f h
adds_more clash other Is Be f k (Err e) given h = h

-- a part is refused
pub adds_refused : {X Y Z W : Type 0} (clash other : Type 0) (Is : Y → X → Type 0) (Be : W → Z → Type 0) → (clash → other) → (e : Fault) (given : Result Y Fault) (next : Y → Result W Fault)
    → AddsAs clash Is (Err e) given → AddsAs other Be (Err e) (given >>= next)
adds_refused clash other Is Be f OutOfMemory given next h = tt
adds_refused clash other Is Be f NameHeld given next h = f h
adds_refused clash other Is Be f e given next h = ap (λ r. r >>= next) h

-- a part that adds nothing is refused
pub gives_refused : {Y Z W : Type 0} (clash : Type 0) (Be : W → Z → Type 0) (e : Fault) (given : Result Y Fault) (next : Y → Result W Fault) → IsAnswer given
    → IsFaultOf e given → AddsAs clash Be (Err e) (given >>= next)
gives_refused clash Be OutOfMemory given next a h = tt
gives_refused clash Be NameHeld given next a h = absurd (subst IsAnswer h a)
gives_refused clash Be e given next a h = ap (λ r. r >>= next) h

-- a record that isn't put
pub put_refused : {X Y : Type 0} (clash : Type 0) (Be : Y → X → Type 0) (given : Result Y Fault) (old new : List Record) (r : Record) (f : StoreFault) → (put old r ≡ None → clash)
    → Adds old new r (Err f) → AddsAs clash Be (Err (of_store f)) given
put_refused clash Be given old new r store.OutOfMemory k h = tt
put_refused clash Be given old new r store.NameHeld k h = k h.0

-- records of which one isn't put
pub puts_refused : {X Y : Type 0} (clash : Type 0) (Be : Y → X → Type 0) (given : Result Y Fault) (old new rs : List Record) (called : Bytes) (f : StoreFault) → (put_all old rs ≡ None → clash)
    → AddsAll old new rs called (Err f) → AddsAs clash Be (Err (of_store f)) given
puts_refused clash Be given old new rs called store.OutOfMemory k h = tt
puts_refused clash Be given old new rs called store.NameHeld k h = k h.0
