-- What follows of the repository that is told, where one is.
use Rattle.std.proofs.Common.{◌≡◌, Option, None, Some, refl, subst}
use Rattle.std.specs.Prelude.{IfSome}
use Rattle.gx_model.specs.Histories.{Records}

pub at_some : {X : Type 0} (o : Option X) (P : X → Type 0) (x : X) → o ≡ Some x → IfSome o P → P x
at_some o P x e h = subst (λ p. IfSome p P) e h

pub for_some : {X : Type 0} {P : X → Type 0} (o : Option X) → ((x : X) → o ≡ Some x → P x) → IfSome o P
for_some None f = tt
for_some (Some x) f = f x refl

pub map_told : (told : Option Records) (P Q : Records → Type 0) → ((r : Records) → P r → Q r) → IfSome told P → IfSome told Q
map_told None P Q f h = tt
map_told (Some r) P Q f h = f r h

pub both_told : (told : Option Records) (P Q R : Records → Type 0) → ((r : Records) → P r → Q r → R r) → IfSome told P → IfSome told Q → IfSome told R
both_told None P Q R f h k = tt
both_told (Some r) P Q R f h k = f r h k
