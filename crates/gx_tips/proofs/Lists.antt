-- Lists, what holds of each element, and tests.
use Rattle.std.proofs.Common.{◌≡◌, ℕ, zero, suc, ◌+◌, ◌<◌, Bool, true, false, cond, refl, sym, ap, subst, ◌∙◌, arith, List, [], ◌∷◌, ◌++◌, map, take, get_or, length, Some, inl, inr, ◌⊎◌, append-nil}
use Rattle.std.specs.Prelude.{◌||◌}
use Rattle.std.specs.List.{AllByRecursion, filter, list_any, slice_get}
use Rattle.std.proofs.lemmas.List.Elements.{filter_more}

-- ---- what holds of each

module _ {X : Type 0} (P : X → Type 0) where
  pub with_one_more : (xs : List X) (x : X) → AllByRecursion P xs → P x → AllByRecursion P (xs ++ x ∷ [])
  with_one_more [] x h p = (p, tt)
  with_one_more (y ∷ ys) x h p = (h.0, with_one_more ys x h.1 p)

  pub holds_at : (xs : List X) (i : ℕ) (x : X) → AllByRecursion P xs → slice_get xs i ≡ Some x → P x
  holds_at [] i x h e = absurd cc
  holds_at (y ∷ ys) zero x h e = let same : y ≡ x = cc in subst P same h.0
  holds_at (y ∷ ys) (suc i) x h e = holds_at ys i x h.1 e

  pub holds_behind : (xs : List X) (x : X) (ys : List X) → AllByRecursion P (xs ++ x ∷ ys) → P x
  holds_behind [] x ys h = h.0
  holds_behind (y ∷ zs) x ys h = holds_behind zs x ys h.1

  pub holds_filtered : (test : X → Bool) (xs : List X) → AllByRecursion P xs → AllByRecursion P (filter test xs)
  holds_filtered test [] h = tt
  holds_filtered test (x ∷ xs) h = elim (test x) as (λ b. AllByRecursion P (cond b (x ∷ filter test xs) (filter test xs))) [
    | true ↦ (h.0, holds_filtered test xs h.1)
    | false ↦ holds_filtered test xs h.1
  ]

pub holds_for : {X : Type 0} (P Q : X → Type 0) → ((x : X) → P x → Q x) → (xs : List X) → AllByRecursion P xs → AllByRecursion Q xs
holds_for P Q f [] h = tt
holds_for P Q f (x ∷ xs) h = (f x h.0, holds_for P Q f xs h.1)

pub holds_both : {X : Type 0} (P Q : X → Type 0) (xs : List X) → AllByRecursion P xs → AllByRecursion Q xs → AllByRecursion (λ x. P x × Q x) xs
holds_both P Q [] h k = tt
holds_both P Q (x ∷ xs) h k = ((h.0, k.0), holds_both P Q xs h.1 k.1)

-- ---- lists

-- a loop that keeps what passes
module _ {X : Type 0} (p : X → Bool) (xs : List X) (i : ℕ) (d : X) (was : List X) (here : i < length xs) (first : was ≡ filter p (take i xs)) where
  more_passing : (b : Bool) → p (get_or xs i d) ≡ b → was ++ cond b (get_or xs i d ∷ []) [] ≡ filter p (take (i + 1) xs)
  more_passing b e =
      ap (λ ys. ys ++ cond b (get_or xs i d ∷ []) []) first
      ∙ ap (λ t. filter p (take i xs) ++ cond t (get_or xs i d ∷ []) []) (sym e)
      ∙ sym (filter_more p xs i d here)

  pub one_kept : (now : List X) → p (get_or xs i d) ≡ true → now ≡ was ++ get_or xs i d ∷ [] → now ≡ filter p (take (i + 1) xs)
  one_kept now t e = e ∙ more_passing true t

  pub one_left_out : p (get_or xs i d) ≡ false → was ≡ filter p (take (i + 1) xs)
  one_left_out t = sym (append-nil was) ∙ more_passing false t

pub mapped_twice : {X Y Z : Type 0} (f : Y → Z) (g : X → Y) (xs : List X) → map f (map g xs) ≡ map (λ x. f (g x)) xs
mapped_twice f g [] = refl
mapped_twice f g (x ∷ xs) = ap (λ zs. f (g x) ∷ zs) (mapped_twice f g xs)

-- what passes, seen otherwise, is what passes there
pub filtered_seen : {X Y : Type 0} (view : X → Y) (p : X → Bool) (q : Y → Bool) (xs : List X) → AllByRecursion (λ x. p x ≡ q (view x)) xs → map view (filter p xs) ≡ filter q (map view xs)
filtered_seen view p q [] h = refl
filtered_seen view p q (x ∷ xs) h =
    ap (λ b. map view (cond b (x ∷ filter p xs) (filter p xs))) h.0
    ∙ elim (q (view x)) as (λ b. map view (cond b (x ∷ filter p xs) (filter p xs)) ≡ cond b (view x ∷ filter q (map view xs)) (filter q (map view xs))) [
      | true ↦ ap (λ ys. view x ∷ ys) (filtered_seen view p q xs h.1)
      | false ↦ filtered_seen view p q xs h.1
    ]

or_between : (a b c d : Bool) → ((a || b) || (c || d)) ≡ ((a || c) || (b || d))
or_between true b c d = refl
or_between false true true d = refl
or_between false true false d = refl
or_between false false c d = refl

-- one of two tests
pub any_either : {X : Type 0} (p q : X → Bool) (xs : List X) → list_any (λ x. p x || q x) xs ≡ (list_any p xs || list_any q xs)
any_either p q [] = refl
any_either p q (x ∷ xs) = ap (λ b. (p x || q x) || b) (any_either p q xs) ∙ or_between (p x) (q x) (list_any p xs) (list_any q xs)

-- an element of two lists is one of the first or of the second
pub in_two : {X : Type 0} (xs ys : List X) (i : ℕ) (x : X) → slice_get (xs ++ ys) i ≡ Some x
    → ((i < length xs) × (slice_get xs i ≡ Some x)) ⊎ ((j : ℕ) × (slice_get ys j ≡ Some x) × (i ≡ length xs + j))
in_two [] ys i x e = inr (i, e, omega arith)
in_two (z ∷ zs) ys zero x e = inl (omega arith, e)
in_two (z ∷ zs) ys (suc i) x e = elim (in_two zs ys i x e) [
  | inl l ↦ inl (let k = l.0 in omega (arith, k), l.1)
  | inr r ↦ inr (r.0, r.1, (let k = r.2 in omega (arith, k)))
]
