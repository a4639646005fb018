-- Answers of one step after another, and what is right.
use Rattle.std.proofs.Common.{◌≡◌, ap, refl, subst, sym, ◌∙◌, Result, Ok, Err}
use Rattle.std.proofs.lemmas.Bool.{false≢true}
use Rattle.std.specs.Prelude.{IsOk}
use Rattle.gx_model.specs.declared.faults.Fault.{Fault}
use Rattle.gx_model.specs.declared.faults.Fault.TheVariants as fault
use Rattle.gx_model.specs.Faults.{IsFaultOf, ◌>>=◌}

-- what the first step refuses, both do
pub fails_first : {A B : Type 0} (e : Fault) (first : Result A Fault) (next : A → Result B Fault) (both : Result B Fault) → both ≡ (first >>= next) → IsFaultOf e first → IsFaultOf e both
fails_first fault.OutOfMemory first next both s h = tt
fails_first e first next both s h = s ∙ ap (λ r. r >>= next) h

-- what gives a fault has it
pub is_fault : {A : Type 0} (e : Fault) (r : Result A Fault) → r ≡ Err e → IsFaultOf e r
is_fault fault.OutOfMemory r h = tt
is_fault e r h = h

-- what is right gives something
pub given : {A E : Type 0} (r : Result A E) → IsOk r → (x : A) × (r ≡ Ok x)
given (Ok x) h = (x, refl)
given (Err e) h = absurd (false≢true h)

-- what gives something is right
pub right : {A E : Type 0} (r : Result A E) (x : A) → r ≡ Ok x → IsOk r
right r x e = subst (λ s. IsOk s) (sym e) refl
