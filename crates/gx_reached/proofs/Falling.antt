-- Places that fall.
use Rattle.std.proofs.Common.{◌≡◌, ℕ, ◌<◌, arith, subst, sym, List, [], ◌∷◌, ◌++◌}
use Rattle.std.specs.List.{AllByRecursion}
use Rattle.gx_reached.specs.Reaching.{AreBelow, Falls}
use Rattle.gx_reached.proofs.Closing.{all_weaker, all_with}

-- those that were visited fall, and what is in front stands before each
pub record FallsTo {X Y : Type 0} (order : List (ℕ × X)) (front : List (ℕ × Y)) : Type 0 where
  pub falls : Falls order
  pub above : AllByRecursion (λ one. AreBelow one.0 front) order

falls_with : {X : Type 0} (order : List (ℕ × X)) (one : ℕ × X) → Falls order → AllByRecursion (λ x. one.0 < x.0) order → Falls (order ++ one ∷ [])
falls_with [] one f a = (tt, tt)
falls_with (x ∷ xs) one f a = (all_with (λ y. y.0 < x.0) xs one f.0 a.0, falls_with xs one f.1 a.1)

last_below : {Y : Type 0} (n : ℕ) (front : List (ℕ × Y)) (k : ℕ × Y) → AreBelow n (front ++ k ∷ []) → k.0 < n
last_below n [] k h = h.0
last_below n (x ∷ xs) k h = last_below n xs k h.1

lower : {Y : Type 0} (m n : ℕ) → m < n → (front : List (ℕ × Y)) → AreBelow m front → AreBelow n front
lower m n l front h = all_weaker (λ x. x.0 < m) (λ x. x.0 < n) (λ x below. omega (arith, below, l)) front h

module _ {X Y : Type 0} where
  -- the last in front is visited
  pub falls_on : (order : List (ℕ × X)) (front new : List (ℕ × Y)) (k : ℕ × Y) (n : X) → FallsTo order (front ++ k ∷ []) → AreBelow k.0 new → FallsTo (order ++ (k.0, n) ∷ []) new
  falls_on order front new k n f below = record {
    falls = falls_with order (k.0, n) f.falls (all_weaker (λ x. AreBelow x.0 (front ++ k ∷ [])) (λ x. k.0 < x.0) (λ x h. last_below x.0 front k h) order f.above);
    above = all_with (λ x. AreBelow x.0 new) order (k.0, n) (all_weaker (λ x. AreBelow x.0 (front ++ k ∷ [])) (λ x. AreBelow x.0 new) (λ x h. lower k.0 x.0 (last_below x.0 front k h) new below) order f.above) below;
  }

-- before one is visited
pub falls_first : {X Y : Type 0} (order : List (ℕ × X)) (front : List (ℕ × Y)) → order ≡ [] → FallsTo order front
falls_first order front none = record { falls = subst Falls (sym none) tt; above = subst (AllByRecursion (λ one. AreBelow one.0 front)) (sym none) tt }
