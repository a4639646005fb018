-- What follows of the repository that is told, where one is.
use Rattle.std.proofs.Common.{Option, None, Some}
use Rattle.std.specs.Prelude.{IfSome}
use Rattle.gx_model.specs.Histories.{Records}

-- what holds of each repository holds of the one that is told
pub each_told : (told : Option Records) (P : Records → Type 0) → ((r : Records) → P r) → IfSome told P
each_told None P f = tt
each_told (Some r) P f = f r

-- what follows from what holds of it
pub map_told : (told : Option Records) (P Q : Records → Type 0) → ((r : Records) → P r → Q r) → IfSome told P → IfSome told Q
map_told None P Q f h = tt
map_told (Some r) P Q f h = f r h

pub both_told : (told : Option Records) (P Q R : Records → Type 0) → ((r : Records) → P r → Q r → R r) → IfSome told P → IfSome told Q → IfSome told R
both_told None P Q R f h k = tt
both_told (Some r) P Q R f h k = f r h k

pub all_told : (told : Option Records) (P Q R S : Records → Type 0) → ((r : Records) → P r → Q r → R r → S r) → IfSome told P → IfSome told Q → IfSome told R → IfSome told S
all_told None P Q R S f h k l = tt
all_told (Some r) P Q R S f h k l = f r h k l
