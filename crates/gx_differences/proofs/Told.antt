-- What follows of the repository that is told, where one is.
use Rattle.std.proofs.Common.{◌≡◌, Option, None, Some, Result, Ok, Err, refl}
use Rattle.std.specs.Prelude.{IfSome}
use Rattle.gx_model.specs.Histories.{Records}
use Rattle.gx_questions.specs.Answers.{IsOfTold}
use Rattle.gx_questions.specs.declared.fault.AskFault.{AskFault}

-- what holds of each repository
pub each_told : (told : Option Records) (P : Records → Type 0) → ((r : Records) → P r) → IfSome told P
each_told None P f = tt
each_told (Some r) P f = f r

pub map_told : (told : Option Records) (P Q : Records → Type 0) → ((r : Records) → P r → Q r) → IfSome told P → IfSome told Q
map_told None P Q f h = tt
map_told (Some r) P Q f h = f r h

pub both_told : (told : Option Records) (P Q R : Records → Type 0) → ((r : Records) → P r → Q r → R r) → IfSome told P → IfSome told Q → IfSome told R
both_told None P Q R f h k = tt
both_told (Some r) P Q R f h k = f r h k

-- what can't be of a repository is of none
pub none_told : (told : Option Records) (P : Records → Type 0) → ((r : Records) → P r → ⊥) → IfSome told P → told ≡ None
none_told None P f h = refl
none_told (Some r) P f h = absurd (f r h)

-- what follows of it where there is an answer
pub ok_told : {X : Type 0} (told : Option Records) (P Q : Records → Type 0) (result : Result X AskFault) → (IfSome told P → IfSome told Q) → IsOfTold told (λ r x. P r) result → IsOfTold told (λ r x. Q r) result
ok_told told P Q (Ok x) f h = f h
ok_told told P Q (Err e) f h = tt
