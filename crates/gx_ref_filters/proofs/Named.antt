-- Patterns that are tried one after the other.
use Rattle.std.proofs.Common.{◌≡◌, ℕ, zero, suc, ◌+◌, ◌<◌, ◌≤◌, Bool, true, false, refl, ap, ◌∙◌, arith, List, [], ◌∷◌, length, take, get_or}
use Rattle.std.specs.Prelude.{◌||◌, ◌==◌}
use Rattle.std.specs.Borrow.{Bor}
use Rattle.std.specs.List.{list_any}
use Rattle.gx_model.specs.Texts.{Bytes}
use Rattle.gx_text.specs.Lent.{lent_texts}
use Rattle.gx_ref_filters.specs.Patterns.{is_front, is_named}

pub some_there : {X : Type 0} (ps : List X) → (length ps == 0) ≡ false → 0 < length ps
some_there [] e = absurd cc
some_there (x ∷ xs) e = omega arith

module _ (called : Bytes) where
  -- whether one of some patterns matches
  abbrev pub some_front : List (Bor Bytes) → Bool
  some_front patterns = list_any (λ p. is_front p called) (lent_texts patterns)

  pub none_yet : (ps : List (Bor Bytes)) → some_front (take 0 ps) ≡ false
  none_yet [] = refl
  none_yet (x ∷ xs) = refl

  pub one_more : (ps : List (Bor Bytes)) (i : ℕ) (d : Bor Bytes) → i < length ps → is_front (get_or ps i d).now called ≡ false → some_front (take i ps) ≡ false → some_front (take (i + 1) ps) ≡ false
  one_more [] i d l e f = absurd (omega (arith, l))
  one_more (x ∷ xs) zero d l e f = ap (λ b. b || some_front (take 0 xs)) e ∙ none_yet xs
  one_more (x ∷ xs) (suc i) d l e f =
      let s : suc i + 1 ≡ suc (i + 1) = omega arith in
      ap (λ n. some_front (take n (x ∷ xs))) s ∙ by (is_front x.now called) f (one_more xs i d (omega (arith, l)) e)
    where
      by : (b : Bool) → (b || some_front (take i xs)) ≡ false → (some_front (take i xs) ≡ false → some_front (take (i + 1) xs) ≡ false) → (b || some_front (take (i + 1) xs)) ≡ false
      by true g h = absurd cc
      by false g h = h g

  found : (ps : List (Bor Bytes)) (i : ℕ) (d : Bor Bytes) → i < length ps → is_front (get_or ps i d).now called ≡ true → some_front ps ≡ true
  found [] i d l e = absurd (omega (arith, l))
  found (x ∷ xs) zero d l e = ap (λ b. b || some_front xs) e
  found (x ∷ xs) (suc i) d l e = by (is_front x.now called) (found xs i d (omega (arith, l)) e)
    where
      by : (b : Bool) → some_front xs ≡ true → (b || some_front xs) ≡ true
      by true h = refl
      by false h = h

  all_passed : (ps : List (Bor Bytes)) (i : ℕ) → length ps ≤ i → some_front (take i ps) ≡ false → some_front ps ≡ false
  all_passed [] zero l f = refl
  all_passed [] (suc i) l f = refl
  all_passed (x ∷ xs) zero l f = absurd (omega (arith, l))
  all_passed (x ∷ xs) (suc i) l f = by (is_front x.now called) f (all_passed xs i (omega (arith, l)))
    where
      by : (b : Bool) → (b || some_front (take i xs)) ≡ false → (some_front (take i xs) ≡ false → some_front xs ≡ false) → (b || some_front xs) ≡ false
      by true g h = absurd cc
      by false g h = h g

  -- where there are patterns
  some_named : (ps : List (Bor Bytes)) → 0 < length ps → is_named (lent_texts ps) called ≡ some_front ps
  some_named [] l = absurd (omega (arith, l))
  some_named (x ∷ xs) l = refl

  pub named_there : (ps : List (Bor Bytes)) (i : ℕ) (d : Bor Bytes) → i < length ps → is_front (get_or ps i d).now called ≡ true → is_named (lent_texts ps) called ≡ true
  named_there ps i d l e = some_named ps (omega (arith, l)) ∙ found ps i d l e

  pub named_nowhere : (ps : List (Bor Bytes)) (i : ℕ) → 0 < length ps → length ps ≤ i → some_front (take i ps) ≡ false → is_named (lent_texts ps) called ≡ false
  named_nowhere ps i s l f = some_named ps s ∙ all_passed ps i l f
