-- Objects that were visited, with the last one taken away.
use Rattle.std.proofs.Common.{ℕ, subst, List, [], ◌∷◌, ◌++◌, Some, inl, inr, ◌⊎◌}
use Rattle.gx_model.specs.Histories.{Records}
use Rattle.gx_model.specs.Pruning.{links_of}
use Rattle.gx_model.specs.Texts.{Bytes}
use Rattle.gx_object.specs.declared.name.Name.{Name}
use Rattle.gx_objects.specs.Answers.{StandsThere}
use Rattle.gx_reached.specs.Reaching.{Among, AreStanding, IsClosed, IsVisited, LinksHave}
use Rattle.gx_reached.proofs.Closing.{all_weaker, among_cases}

standing_last : (r : Records) (stands : ℕ → ℕ) (order : List (ℕ × Name)) (one : ℕ × Name) → AreStanding r stands (order ++ one ∷ []) → AreStanding r stands order × StandsThere stands one.1.bytes r (Some one.0)
standing_last r stands [] one h = (tt, h.0)
standing_last r stands (x ∷ xs) one h = let q = standing_last r stands xs one h.1 in ((h.0, q.0), q.1)

module _ (r : Records) (Bad Bad_then Has Has_then : Bytes → Type 0) (bad : (n : Bytes) → Bad n → Bad_then n) (one : ℕ × Name) (has : (n : Bytes) → Has n → Has_then n) (own : Has_then one.1.bytes) where
  less : (xs : List (ℕ × Name)) (n : Bytes) → Among (xs ++ one ∷ []) n ⊎ Has n → Among xs n ⊎ Has_then n
  less xs n p = elim p [
    | inl a ↦ elim (among_cases xs one n a) [ inl q ↦ inl q | inr e ↦ inr (subst Has_then e own) ]
    | inr w ↦ inr (has n w)
  ]

  closed_without : (order : List (ℕ × Name)) → IsClosed r Bad Has (order ++ one ∷ []) → IsClosed r Bad_then Has_then order
  closed_without [] c = tt
  closed_without (x ∷ xs) c = (
    elim c.0 [
      | inl b ↦ inl (bad x.1.bytes b)
      | inr l ↦ inr (λ held e. all_weaker (λ n. Among (xs ++ one ∷ []) n ⊎ Has n) (λ n. Among xs n ⊎ Has_then n) (less xs) (links_of held.kind held.body) (l held e))
    ],
    closed_without xs c.1,
  )

  -- the last one is taken away
  pub visited_without : (stands : ℕ → ℕ) (tips : List Bytes) (order : List (ℕ × Name)) → IsVisited r stands Bad Has tips (order ++ one ∷ []) → IsVisited r stands Bad_then Has_then tips order
  visited_without stands tips order v = record {
    standing = (standing_last r stands order one v.standing).0;
    closed = closed_without order v.closed;
    tips_are = all_weaker _ _ (less order) tips v.tips_are;
  }

module _ (r : Records) (Bad Has : Bytes → Type 0) where
  last_closed : (order : List (ℕ × Name)) (one : ℕ × Name) → IsClosed r Bad Has (order ++ one ∷ []) → Bad one.1.bytes ⊎ LinksHave r Has one.1.bytes
  last_closed [] one c = elim c.0 [
    | inl b ↦ inl b
    | inr l ↦ inr (λ held e. all_weaker (λ n. Among [] n ⊎ Has n) Has (λ n p. elim p [ inl a ↦ absurd a | inr w ↦ w ]) (links_of held.kind held.body) (l held e))
  ]
  last_closed (x ∷ xs) one c = last_closed xs one c.1

  -- the last one, and what it names
  pub last_visited : (stands : ℕ → ℕ) (tips : List Bytes) (order : List (ℕ × Name)) (one : ℕ × Name) → IsVisited r stands Bad Has tips (order ++ one ∷ [])
      → StandsThere stands one.1.bytes r (Some one.0) × (Bad one.1.bytes ⊎ LinksHave r Has one.1.bytes)
  last_visited stands tips order one v = ((standing_last r stands order one v.standing).1, last_closed order one v.closed)
