-- A handle says whether it holds something.
use Rattle.std.proofs.Common.{◌≡◌, refl, subst}
use lib.Dec.{T}
use Rattle.std.specs.Prelude.{Bool, true, false, not, is_some, IsSome, Option, None, Some}

pub of_closed : {X : Type 0} (x : Option X) (is_open : Bool) → is_some x ≡ is_open → is_open ≡ false → x ≡ None
of_closed None is_open e f = refl
of_closed (Some x) is_open e f = absurd (subst (λ (b : Bool). T b) f (subst (λ (b : Bool). T b) e tt))

pub of_open : {X : Type 0} (x : Option X) (is_open : Bool) → is_some x ≡ is_open → is_open ≡ true → IsSome x
of_open None is_open e t = absurd (subst (λ (b : Bool). T (not b)) t (subst (λ (b : Bool). T (not b)) e tt))
of_open (Some x) is_open e t = refl
