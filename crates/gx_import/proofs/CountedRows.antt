-- Rows that are counted one after the other.
use Rattle.std.proofs.Common.{◌≡◌, ◌+◌, ◌≤◌, ℕ, Bool, true, false, cond, List, [], ◌∷◌, length, subst, arith}
use Rattle.std.specs.List.{filter}

module _ {X : Type 0} (test : X → Bool) where
  -- the next one is counted where it passes
  pub one_counted : (n m : ℕ) (x : X) (xs all : List X) → all ≡ x ∷ xs → (total : ℕ) → n + length (filter test all) ≡ total → m ≡ cond (test x) (n + 1) n → m + length (filter test xs) ≡ total
  one_counted n m x xs all is total h e = by (test x) (subst (λ ys. n + length (filter test ys) ≡ total) is h) e
    where
      by : (b : Bool) → n + length (cond b (x ∷ filter test xs) (filter test xs)) ≡ total → m ≡ cond b (n + 1) n → m + length (filter test xs) ≡ total
      by true h e = omega (arith, h, e)
      by false h e = omega (arith, h, e)

  fewer_more : (b : Bool) (x : X) (xs : List X) (n : ℕ) → length xs ≤ n → length (cond b (x ∷ xs) xs) ≤ n + 1
  fewer_more true x xs n h = omega (arith, h)
  fewer_more false x xs n h = omega (arith, h)

  -- no more pass than there are
  pub fewer_pass : (xs : List X) → length (filter test xs) ≤ length xs
  fewer_pass [] = omega arith
  fewer_pass (x ∷ xs) = omega (arith, fewer_more (test x) x (filter test xs) (length xs) (fewer_pass xs))
