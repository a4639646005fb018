-- What stands at a place of a list, and behind it.
use Rattle.std.proofs.Common.{◌≡◌, ℕ, zero, suc, ◌+◌, arith, sym, ap, ◌∙◌, List, [], ◌∷◌, drop, None, Some}
use Rattle.std.specs.List.{slice_get}
use Rattle.std.proofs.lemmas.List.{drop_all}

-- the element at a place, and those behind it
pub from_place : {X : Type 0} (xs : List X) (i : ℕ) (x : X) → Some x ≡ slice_get xs i → drop i xs ≡ x ∷ drop (i + 1) xs
from_place [] i x e = absurd cc
from_place (y ∷ ys) zero x e = let same : x ≡ y = cc in ap (λ z. z ∷ ys) (sym same)
from_place (y ∷ ys) (suc i) x e = let s : suc i + 1 ≡ suc (i + 1) = omega arith in rw s (from_place ys i x e)

-- behind the last element there is none
pub past_place : {X : Type 0} (xs : List X) (i : ℕ) → None ≡ slice_get xs i → drop i xs ≡ drop (i + 1) xs
past_place [] i e = drop_all i [] (omega arith) ∙ sym (drop_all (i + 1) [] (omega arith))
past_place (y ∷ ys) zero e = absurd cc
past_place (y ∷ ys) (suc i) e = let s : suc i + 1 ≡ suc (i + 1) = omega arith in rw s (past_place ys i e)
