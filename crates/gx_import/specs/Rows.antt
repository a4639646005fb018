-- The rows of a table, as a list of names and values.
use Rattle.std.specs.Prelude.{◌≡◌, ℕ, List, [], ◌∷◌, Option, Some, None, is_some, Bool, ⊤}
use Rattle.std.specs.Map.{lookup}
use Rattle.std.specs.declared.vec.Vec.{Vec}
use Rattle.gx_model.specs.Texts.{Bytes, same_bytes}

-- a row without where its name lies in memory
abbrev pub row_of : {T A : Type 0} → Vec ℕ A × T → Bytes × T
row_of row = (row.0.items, row.1)

-- a row of this name stands among these
abbrev pub has_row : {X : Type 0} → List (Bytes × X) → Bytes → Bool
has_row rows called = is_some (lookup (same_bytes called) rows)

module _ {X Y : Type 0} (Is : X → Y → Type 0) where
  -- the same names, and at each of them what goes together
  abbrev pub AreRows : List (Bytes × X) → List (Bytes × Y) → Type 0
  AreRows [] [] = ⊤
  AreRows [] (y ∷ ys) = ⊥
  AreRows (x ∷ xs) [] = ⊥
  AreRows (x ∷ xs) (y ∷ ys) = (x.0 ≡ y.0) × Is x.1 y.1 × AreRows xs ys

  -- each goes with the one at its place
  abbrev pub AreAll : List X → List Y → Type 0
  AreAll [] [] = ⊤
  AreAll [] (y ∷ ys) = ⊥
  AreAll (x ∷ xs) [] = ⊥
  AreAll (x ∷ xs) (y ∷ ys) = Is x y × AreAll xs ys

  -- two that go together, or neither
  abbrev pub AreBoth : Option X → Option Y → Type 0
  AreBoth None None = ⊤
  AreBoth None (Some y) = ⊥
  AreBoth (Some x) None = ⊥
  AreBoth (Some x) (Some y) = Is x y
