-- Two ordered lists side by side, run by run: where a run of both comes before all that is left of both.
use Rattle.std.proofs.Common.{◌≡◌, ◌∙◌, List, [], ◌∷◌, ◌++◌, map, refl, sym, ap}
use Rattle.std.specs.List.{AllByRecursion}
use Rattle.std.specs.declared.cmp.Ordering.{Ordering}
use Rattle.std.specs.declared.cmp.Ordering.TheVariants.{Less, Equal, Greater}
use Rattle.std.proofs.lemmas.List.{map-append}
use Rattle.gx_export.specs.Pairs.{side_by_side, with_old}

module _ {X : Type 0} (order : X → X → Ordering) where
  abbrev Sides : Type 0
  Sides = List (List X × List X)

  -- each old one comes before each of these new ones
  abbrev pub AreBefore : List X → List X → Type 0
  AreBefore xs ys = AllByRecursion (λ x. AllByRecursion (λ y. order x y ≡ Less) ys) xs

  -- each old one comes behind each of these new ones
  abbrev pub AreBehind : List X → List X → Type 0
  AreBehind xs ys = AllByRecursion (λ y. AllByRecursion (λ x. order x y ≡ Greater) xs) ys

  abbrev pub alone : List X → Sides
  alone ys = map (λ y. ([], y ∷ [])) ys

  new_first : (b c d : List X) → AreBehind b c → side_by_side order b (c ++ d) ≡ alone c ++ side_by_side order b d
  new_first [] c d h = map-append (λ y. ([], y ∷ [])) c d
  new_first (x ∷ b) [] d h = refl
  new_first (x ∷ b) (y ∷ c) d h = by (new_first (x ∷ b) c d h.1) (order x y) h.0.0
    where
      by : with_old order x (side_by_side order b) (c ++ d) ≡ alone c ++ with_old order x (side_by_side order b) d → (o : Ordering) → o ≡ Greater
          → ◌≡◌ {A = Sides} (elim o [ Less ↦ (x ∷ [], []) ∷ side_by_side order b (y ∷ (c ++ d)) | Equal ↦ (x ∷ [], y ∷ []) ∷ side_by_side order b (c ++ d) | Greater ↦ ([], y ∷ []) ∷ with_old order x (side_by_side order b) (c ++ d) ])
          (([], y ∷ []) ∷ (alone c ++ with_old order x (side_by_side order b) d))
      by after Less e = absurd (cc e)
      by after Equal e = absurd (cc e)
      by after Greater e = ap (λ s. ([], y ∷ []) ∷ s) after

  -- what is left comes behind both runs
  abbrev IsRun : List X → List X → Type 0
  IsRun a b = (c d : List X) → AreBefore a d → AreBehind b c → side_by_side order (a ++ b) (c ++ d) ≡ side_by_side order a c ++ side_by_side order b d

  old_run : (x : X) (a b : List X) → IsRun a b → (c d : List X) → AreBefore (x ∷ a) d → AreBehind b c → with_old order x (side_by_side order (a ++ b)) (c ++ d) ≡ with_old order x (side_by_side order a) c ++ side_by_side order b d
  old_run x a b rest [] [] h k = ap (λ s. (x ∷ [], []) ∷ s) (rest [] [] h.1 tt)
  old_run x a b rest [] (y ∷ d) h k = by (order x y) h.0.0
    where
      by : (o : Ordering) → o ≡ Less
          → ◌≡◌ {A = Sides} (elim o [ Less ↦ (x ∷ [], []) ∷ side_by_side order (a ++ b) (y ∷ d) | Equal ↦ (x ∷ [], y ∷ []) ∷ side_by_side order (a ++ b) d | Greater ↦ ([], y ∷ []) ∷ with_old order x (side_by_side order (a ++ b)) d ])
          ((x ∷ [], []) ∷ (side_by_side order a [] ++ side_by_side order b (y ∷ d)))
      by Less e = ap (λ s. (x ∷ [], []) ∷ s) (rest [] (y ∷ d) h.1 tt)
      by Equal e = absurd (cc e)
      by Greater e = absurd (cc e)
  old_run x a b rest (y ∷ c) d h k = by (old_run x a b rest c d h k.1) (order x y)
    where
      by : with_old order x (side_by_side order (a ++ b)) (c ++ d) ≡ with_old order x (side_by_side order a) c ++ side_by_side order b d → (o : Ordering)
          → ◌≡◌ {A = Sides} (elim o [ Less ↦ (x ∷ [], []) ∷ side_by_side order (a ++ b) (y ∷ (c ++ d)) | Equal ↦ (x ∷ [], y ∷ []) ∷ side_by_side order (a ++ b) (c ++ d) | Greater ↦ ([], y ∷ []) ∷ with_old order x (side_by_side order (a ++ b)) (c ++ d) ])
          ((elim o [ Less ↦ (x ∷ [], []) ∷ side_by_side order a (y ∷ c) | Equal ↦ (x ∷ [], y ∷ []) ∷ side_by_side order a c | Greater ↦ ([], y ∷ []) ∷ with_old order x (side_by_side order a) c ]) ++ side_by_side order b d)
      by after Less = ap (λ s. (x ∷ [], []) ∷ s) (rest (y ∷ c) d h.1 k)
      by after Equal = ap (λ s. (x ∷ [], y ∷ []) ∷ s) (rest c d h.1 k.1)
      by after Greater = ap (λ s. ([], y ∷ []) ∷ s) after

  pub runs : (a b : List X) → IsRun a b
  runs [] b c d h k = new_first b c d k
  runs (x ∷ a) b c d h k = old_run x a b (runs a b) c d h k
