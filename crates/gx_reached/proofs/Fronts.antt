-- What is in front, with one more, and with the last one taken out.
use Rattle.std.proofs.Common.{◌≡◌, ℕ, zero, suc, ◌<◌, ◌≤◌, refl, sym, ap, subst, ◌∙◌, arith, List, [], ◌∷◌, ◌++◌, length, get_or, Option, Some, None, inl, inr, ◌⊎◌}
use Rattle.std.specs.List.{All, AllByRecursion}
use Rattle.std.specs.Option.{option_map}
use Rattle.std.specs.Bool.{passes}
use Rattle.std.specs.Ordering.{nat_cmp, match_ordering}
use Rattle.std.specs.declared.cmp.Ordering.TheVariants.{Less, Equal, Greater}
use Rattle.std.specs.BTreeMap.{insert_entry}
use Rattle.std.specs.BTreeMap.Range.{IsLtBy}
use Rattle.std.specs.Map.{keys_of}
use Rattle.std.proofs.lemmas.Bool.Decides.{nat_tests}
use Rattle.std.proofs.lemmas.List.Elements.{recursion_from_All}
use Rattle.std.proofs.lemmas.List.Quantifiers.{position-Some}
use Rattle.gx_model.specs.declared.objects.Kind.TheVariants.{Blob}
use Rattle.gx_model.specs.Histories.{Record, Records}
use Rattle.gx_model.specs.Texts.{Bytes, same_bytes}
use Rattle.gx_model.proofs.Texts.PathTests.{same_is}
use Rattle.gx_objects.specs.Answers.{GoesUp, StandsThere}
use Rattle.gx_store.specs.Stores.{place_named}
use Rattle.gx_reached.specs.Reaching.{AddsTo, AreBelow, InFront, IsStep, behind_last}
use Rattle.gx_reached.specs.declared.links.Link.{Link}

-- ---- places

less_told : (q k : ℕ) → nat_cmp q k ≡ Less → q < k
less_told q k h = grind (arith, nat_tests)

module _ {X : Type 0} where
  pub behind_end : (xs : List (ℕ × X)) (k : ℕ × X) → behind_last (xs ++ k ∷ []) ≡ suc k.0
  behind_end [] k = refl
  behind_end (x ∷ []) k = refl
  behind_end (x ∷ y ∷ ys) k = behind_end (y ∷ ys) k

  pub behind_below : (n : ℕ) (xs : List (ℕ × X)) → AreBelow n xs → behind_last xs ≤ n
  behind_below n [] h = omega arith
  behind_below n (x ∷ []) h = let l = h.0 in omega arith
  behind_below n (x ∷ y ∷ ys) h = behind_below n (y ∷ ys) h.1

  pub below_inserted : (n p : ℕ) (v : X) (xs : List (ℕ × X)) → p < n → AreBelow n xs → AreBelow n (insert_entry nat_cmp xs p v)
  below_inserted n p v [] l h = (l, tt)
  below_inserted n p v (x ∷ xs) l h =
      elim (nat_cmp p x.0) as (λ o. AreBelow n (match_ordering o ((p, v) ∷ x ∷ xs) ((x.0, v) ∷ xs) (x ∷ insert_entry nat_cmp xs p v))) [
        | Less ↦ (l, h)
        | Equal ↦ h
        | Greater ↦ (h.0, below_inserted n p v xs l h.1)
      ]

  below_keys : (k : ℕ) (xs : List (ℕ × X)) → AllByRecursion (λ q. IsLtBy nat_cmp q k) (keys_of xs) → AreBelow k xs
  below_keys k [] h = tt
  below_keys k (x ∷ xs) h = (less_told x.0 k h.0, below_keys k xs h.1)

  pub all_below : (k : ℕ) (xs : List (ℕ × X)) → All (λ q. IsLtBy nat_cmp q k) (keys_of xs) → AreBelow k xs
  all_below k xs h = below_keys k xs (recursion_from_All (λ q. IsLtBy nat_cmp q k) (keys_of xs) h)

same_number : (k x : ℕ) → nat_cmp k x ≡ Equal → k ≡ x
same_number k x e = grind (arith, nat_tests)

order_of : (i j : ℕ) → (i < j) ⊎ ((i ≡ j) ⊎ (j < i))
order_of zero zero = inr (inl refl)
order_of zero (suc j) = inl (omega arith)
order_of (suc i) zero = inr (inr (omega arith))
order_of (suc i) (suc j) = elim (order_of i j) [
  | inl l ↦ inl (omega arith)
  | inr k ↦ elim k [ inl e ↦ inr (inl (ap suc e)) | inr l ↦ inr (inr (omega arith)) ]
]

-- ---- names at places

nobody : Record
nobody = record { name = []; kind = Blob; body = [] }

module _ (stands : ℕ → ℕ) (r : Records) (order : GoesUp stands (length r.records)) where
  -- the number of the record that stands at a place under a name
  record IsNumber (n : Bytes) (p : ℕ) : Type 0 where
    number : ℕ
    low : number < length r.records
    at : stands number ≡ p
    named : n ≡ (get_or r.records number nobody).name

  number_of : (n : Bytes) (p : ℕ) → StandsThere stands n r (Some p) → IsNumber n p
  number_of n p e = by (place_named r.records n) refl e
    where
      by : (o : Option ℕ) → place_named r.records n ≡ o → Some p ≡ option_map stands o → IsNumber n p
      by None f g = absurd cc
      by (Some i) f g =
          let there = position-Some (λ held. same_bytes n held.name) r.records i nobody f in
          record { number = i; low = there.0; at = (let same : Some p ≡ Some (stands i) = g in cc same); named = same_is n (get_or r.records i nobody).name (passes _ there.1) }

  -- one place is that of one name
  pub same_name : (n m : Bytes) (p : ℕ) → StandsThere stands n r (Some p) → StandsThere stands m r (Some p) → n ≡ m
  same_name n m p e f =
      let i = number_of n p e in
      let j = number_of m p f in
      let same : i.number ≡ j.number = elim (order_of i.number j.number) [
        | inl l ↦ absurd (let k = order i.number j.number l j.low in let a = i.at in let b = j.at in omega (arith, k, a, b))
        | inr q ↦ elim q [ inl s ↦ s | inr l ↦ absurd (let k = order j.number i.number l i.low in let a = i.at in let b = j.at in omega (arith, k, a, b)) ]
      ] in
      i.named ∙ ap (λ k. (get_or r.records k nobody).name) same ∙ sym j.named

  steps_inserted : (p : ℕ) (l : Link) (xs : List (ℕ × Link)) → IsStep r stands (p, l) → AllByRecursion (IsStep r stands) xs → AllByRecursion (IsStep r stands) (insert_entry nat_cmp xs p l)
  steps_inserted p l [] s h = (s, tt)
  steps_inserted p l (x ∷ xs) s h =
      elim (nat_cmp p x.0) as (λ o. nat_cmp p x.0 ≡ o → AllByRecursion (IsStep r stands) (match_ordering o ((p, l) ∷ x ∷ xs) ((x.0, l) ∷ xs) (x ∷ insert_entry nat_cmp xs p l))) [
        | Less ↦ λ e. (s, h)
        | Equal ↦ λ e. (subst (λ q. IsStep r stands (q, l)) (same_number p x.0 e) s, h.1)
        | Greater ↦ λ e. (h.0, steps_inserted p l xs s h.1)
      ] refl

  front_more : (p : ℕ) (l : Link) (xs : List (ℕ × Link)) (n : Bytes) → IsStep r stands (p, l) → AllByRecursion (IsStep r stands) xs → InFront xs n → InFront (insert_entry nat_cmp xs p l) n
  front_more p l [] n s h i = absurd i
  front_more p l (x ∷ xs) n s h i =
      elim (nat_cmp p x.0) as (λ o. nat_cmp p x.0 ≡ o → InFront (match_ordering o ((p, l) ∷ x ∷ xs) ((x.0, l) ∷ xs) (x ∷ insert_entry nat_cmp xs p l)) n) [
        | Less ↦ λ e. inr i
        | Equal ↦ λ e. elim i [
          | inl q ↦ inl (same_name l.name.bytes x.1.name.bytes p s.0 (subst (λ k. StandsThere stands x.1.name.bytes r (Some k)) (sym (same_number p x.0 e)) h.0.0) ∙ q)
          | inr q ↦ inr q
        ]
        | Greater ↦ λ e. elim i [ inl q ↦ inl q | inr q ↦ inr (front_more p l xs n s h.1 q) ]
      ] refl

  -- with one more in front
  pub inserted : (p : ℕ) (l : Link) (xs : List (ℕ × Link)) → IsStep r stands (p, l) → AllByRecursion (IsStep r stands) xs → AddsTo r stands xs (insert_entry nat_cmp xs p l)
  inserted p l xs s h = record { steps = steps_inserted p l xs s h; more = λ n i. front_more p l xs n s h i }

-- one that is put in front is there
pub in_front : (p : ℕ) (l : Link) (xs : List (ℕ × Link)) → InFront (insert_entry nat_cmp xs p l) l.name.bytes
in_front p l [] = inl refl
in_front p l (x ∷ xs) =
    elim (nat_cmp p x.0) as (λ o. InFront (match_ordering o ((p, l) ∷ x ∷ xs) ((x.0, l) ∷ xs) (x ∷ insert_entry nat_cmp xs p l)) l.name.bytes) [
      | Less ↦ inl refl
      | Equal ↦ inl refl
      | Greater ↦ inr (in_front p l xs)
    ]

-- what is in front then was there, or is what was put there
pub only_inserted : (p : ℕ) (l : Link) (xs : List (ℕ × Link)) (n : Bytes) → InFront (insert_entry nat_cmp xs p l) n → InFront xs n ⊎ (l.name.bytes ≡ n)
only_inserted p l [] n i = elim i [ inl e ↦ inr e | inr q ↦ absurd q ]
only_inserted p l (x ∷ xs) n i =
    elim (nat_cmp p x.0) as (λ o. InFront (match_ordering o ((p, l) ∷ x ∷ xs) ((x.0, l) ∷ xs) (x ∷ insert_entry nat_cmp xs p l)) n → InFront (x ∷ xs) n ⊎ (l.name.bytes ≡ n)) [
      | Less ↦ λ h. elim h [ inl e ↦ inr e | inr q ↦ inl q ]
      | Equal ↦ λ h. elim h [ inl e ↦ inr e | inr q ↦ inl (inr q) ]
      | Greater ↦ λ h. elim h [ inl e ↦ inl (inl e) | inr q ↦ elim (only_inserted p l xs n q) [ inl a ↦ inl (inr a) | inr e ↦ inr e ] ]
    ] i

-- the last one, and the others
pub steps_last : (r : Records) (stands : ℕ → ℕ) (xs : List (ℕ × Link)) (k : ℕ × Link) → AllByRecursion (IsStep r stands) (xs ++ k ∷ []) → AllByRecursion (IsStep r stands) xs × IsStep r stands k
steps_last r stands [] k h = (tt, h.0)
steps_last r stands (x ∷ xs) k h = let q = steps_last r stands xs k h.1 in ((h.0, q.0), q.1)

pub front_cases : (xs : List (ℕ × Link)) (k : ℕ × Link) (n : Bytes) → InFront (xs ++ k ∷ []) n → InFront xs n ⊎ (k.1.name.bytes ≡ n)
front_cases [] k n h = elim h [ inl e ↦ inr e | inr q ↦ absurd q ]
front_cases (x ∷ xs) k n h = elim h [
  | inl e ↦ inl (inl e)
  | inr q ↦ elim (front_cases xs k n q) [ inl a ↦ inl (inr a) | inr e ↦ inr e ]
]

pub front_left : (xs : List (ℕ × Link)) (k : ℕ × Link) (n : Bytes) → InFront xs n → InFront (xs ++ k ∷ []) n
front_left [] k n h = absurd h
front_left (x ∷ xs) k n h = elim h [ inl e ↦ inl e | inr q ↦ inr (front_left xs k n q) ]

pub front_last : (xs : List (ℕ × Link)) (k : ℕ × Link) (n : Bytes) → k.1.name.bytes ≡ n → InFront (xs ++ k ∷ []) n
front_last [] k n e = inl e
front_last (x ∷ xs) k n e = inr (front_last xs k n e)

pub nothing_left : {X : Type 0} (xs : List X) → (0 < length xs → ⊥) → xs ≡ []
nothing_left [] h = refl
nothing_left (x ∷ xs) h = absurd (h (omega arith))
