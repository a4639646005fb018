-- What follows of the repository that is told, where one is.
use Rattle.std.proofs.Common.{◌≡◌, ◌≢◌, ◌<◌, ℕ, zero, suc, List, [], ◌∷◌, length, get_or, arith, Option, None, Some, Result, Ok, Err, refl, sym, subst}
use Rattle.std.specs.Prelude.{IfSome}
use Rattle.gx_model.specs.Histories.{Records}
use Rattle.gx_model.specs.Histories.Values.{Value}
use Rattle.gx_model.specs.Streams.Items.{Item}
use Rattle.gx_questions.specs.Answers.{RefusesUntold}
use Rattle.gx_questions.specs.declared.fault.AskFault.{AskFault}
use Rattle.gx_questions.specs.declared.fault.AskFault.TheVariants as ask
use Rattle.gx_sending.specs.Faults.{IsOnTheWay, of_ask}
use Rattle.gx_sending.specs.Marks.{Adds, HasWritten, IsWritten}
use Rattle.gx_sending.specs.declared.fault.SendFault.{SendFault}
use Rattle.gx_sending.specs.declared.fault.SendFault.TheVariants.{OutOfMemory, ReadFailed, Damaged, Unsupported, WriteFailed}
use Rattle.gx_sending.specs.declared.written.Written.{Written}
use Rattle.gx_sending.proofs.Sending.{stops_here}

-- ---- faults

-- a question that isn't answered stops what goes out before it begins
pub asked_stops : (X : Type 0) {W A : Type 0} (told : Option Records) (e : AskFault) (us : Records → List Value → List Value) (items : Records → List Value → List Item) (old : Written W A) → RefusesUntold {X = X} told (Err e)
    → IfSome told (λ r. (ws : List Value) → HasWritten r ws old → Adds (us r ws) (items r ws) old old (Err (of_ask e)) r)
asked_stops X None e us items old h = tt
asked_stops X (Some r) ask.OutOfMemory us items old h = λ ws k. stops_here r (us r ws) (items r ws) old OutOfMemory (λ q. cc q) refl
asked_stops X (Some r) ask.ReadFailed us items old h = λ ws k. stops_here r (us r ws) (items r ws) old ReadFailed (λ q. cc q) refl
asked_stops X (Some r) ask.Damaged us items old h = absurd (cc h)
asked_stops X (Some r) (ask.Revision f) us items old h = absurd h

-- what goes out of a repository that is told stops on the way
pub on_the_way : {W A : Type 0} (told : Option Records) (e : SendFault) (us : Records → List Value → List Value) (items : Records → List Value → List Item) (old new : Written W A) → IfSome told (IsWritten old)
    → IfSome told (λ r. (ws : List Value) → HasWritten r ws old → Adds (us r ws) (items r ws) old new (Err e) r) → IsOnTheWay {X = Unit {0}} told (Err e)
on_the_way told OutOfMemory us items old new w h = tt
on_the_way told ReadFailed us items old new w h = tt
on_the_way told (WriteFailed n) us items old new w h = tt
on_the_way told Unsupported us items old new w h = tt
on_the_way None Damaged us items old new w h = refl
on_the_way (Some r) Damaged us items old new w h = absurd ((h w.0 w.1).told refl)

-- of none nothing is said
pub untold : (told : Option Records) (P : Records → Type 0) → told ≡ None → IfSome told P
untold told P e = subst (λ t. IfSome t P) (sym e) tt

-- ---- lists

-- what stands within a list is the same whatever else it might be
pub got : {X : Type 0} (xs : List X) (i : ℕ) (d : X) → i < length xs → get_or xs i d ≡ get_or xs i (get_or xs i d)
got [] i d l = absurd (omega (arith, l))
got (x ∷ xs) zero d l = refl
got (x ∷ xs) (suc i) d l = got xs i d (omega (arith, l))

-- ---- the repository that is told, by its name

pub each_some : (told : Option Records) (P : Records → Type 0) → ((r : Records) → told ≡ Some r → P r) → IfSome told P
each_some None P f = tt
each_some (Some r) P f = f r refl

pub at_some : (told : Option Records) (P : Records → Type 0) (r : Records) → told ≡ Some r → IfSome told P → P r
at_some told P r s h = subst (λ t. IfSome t P) s h
