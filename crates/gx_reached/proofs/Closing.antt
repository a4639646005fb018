-- Objects that were visited, with one more behind them.
use Rattle.std.proofs.Common.{◌≡◌, ℕ, List, [], ◌∷◌, ◌++◌, Some, inl, inr, ◌⊎◌}
use Rattle.std.specs.List.{AllByRecursion}
use Rattle.gx_model.specs.Histories.{Records}
use Rattle.gx_model.specs.Pruning.{links_of}
use Rattle.gx_model.specs.Texts.{Bytes}
use Rattle.gx_object.specs.declared.name.Name.{Name}
use Rattle.gx_objects.specs.Answers.{StandsThere}
use Rattle.gx_reached.specs.Reaching.{Among, IsClosed, IsVisited, LinksHave}

pub all_weaker : {X : Type 0} (P Q : X → Type 0) → ((x : X) → P x → Q x) → (xs : List X) → AllByRecursion P xs → AllByRecursion Q xs
all_weaker P Q f [] h = tt
all_weaker P Q f (x ∷ xs) h = (f x h.0, all_weaker P Q f xs h.1)

pub all_with : {X : Type 0} (P : X → Type 0) (xs : List X) (x : X) → AllByRecursion P xs → P x → AllByRecursion P (xs ++ x ∷ [])
all_with P [] x h p = (p, tt)
all_with P (y ∷ ys) x h p = (h.0, all_with P ys x h.1 p)

pub among_with : (order : List (ℕ × Name)) (one : ℕ × Name) (n : Bytes) → Among order n → Among (order ++ one ∷ []) n
among_with [] one n h = absurd h
among_with (x ∷ xs) one n h = elim h [ inl e ↦ inl e | inr q ↦ inr (among_with xs one n q) ]

pub among_last : (order : List (ℕ × Name)) (one : ℕ × Name) (n : Bytes) → one.1.bytes ≡ n → Among (order ++ one ∷ []) n
among_last [] one n e = inl e
among_last (x ∷ xs) one n e = inr (among_last xs one n e)

pub among_cases : (order : List (ℕ × Name)) (one : ℕ × Name) (n : Bytes) → Among (order ++ one ∷ []) n → Among order n ⊎ (one.1.bytes ≡ n)
among_cases [] one n h = elim h [ inl e ↦ inr e | inr q ↦ absurd q ]
among_cases (x ∷ xs) one n h = elim h [
  | inl e ↦ inl (inl e)
  | inr q ↦ elim (among_cases xs one n q) [ inl a ↦ inl (inr a) | inr e ↦ inr e ]
]

module _ (r : Records) (Bad Bad_then Has Has_then : Bytes → Type 0) (bad : (n : Bytes) → Bad n → Bad_then n) where
  has_more : (P Q : Bytes → Type 0) → ((n : Bytes) → P n → Q n) → (called : Bytes) → LinksHave r P called → LinksHave r Q called
  has_more P Q f called h = λ held e. all_weaker P Q f (links_of held.kind held.body) (h held e)

  module _ (one : ℕ × Name) where
    closed_with : ((n : Bytes) → Has n → (one.1.bytes ≡ n) ⊎ Has_then n) → Bad_then one.1.bytes ⊎ LinksHave r Has_then one.1.bytes → (order : List (ℕ × Name)) → IsClosed r Bad Has order → IsClosed r Bad_then Has_then (order ++ one ∷ [])
    closed_with has own [] c = (elim own [ inl b ↦ inl b | inr l ↦ inr (has_more Has_then (λ n. Among [] n ⊎ Has_then n) (λ n p. inr p) one.1.bytes l) ], tt)
    closed_with has own (x ∷ xs) c = (
      elim c.0 [
        | inl b ↦ inl (bad x.1.bytes b)
        | inr l ↦ inr (has_more (λ n. Among xs n ⊎ Has n) (λ n. Among (xs ++ one ∷ []) n ⊎ Has_then n)
            (λ n p. elim p [ inl a ↦ inl (among_with xs one n a) | inr w ↦ elim (has n w) [ inl e ↦ inl (among_last xs one n e) | inr v ↦ inr v ] ]) x.1.bytes l)
      ],
      closed_with has own xs c.1,
    )

  module _ (stands : ℕ → ℕ) (one : ℕ × Name) (tips : List Bytes) (order : List (ℕ × Name)) where
    -- one more was visited
    pub visited_with : ((n : Bytes) → Has n → (one.1.bytes ≡ n) ⊎ Has_then n) → StandsThere stands one.1.bytes r (Some one.0) → Bad_then one.1.bytes ⊎ LinksHave r Has_then one.1.bytes
        → IsVisited r stands Bad Has tips order → IsVisited r stands Bad_then Has_then tips (order ++ one ∷ [])
    visited_with has there own v = record {
      standing = all_with (λ x. StandsThere stands x.1.bytes r (Some x.0)) order one v.standing there;
      closed = closed_with one has own order v.closed;
      tips_are = all_weaker _ _ (λ n p. elim p [ inl a ↦ inl (among_with order one n a) | inr w ↦ elim (has n w) [ inl e ↦ inl (among_last order one n e) | inr u ↦ inr u ] ]) tips v.tips_are;
    }

  closed_more : ((n : Bytes) → Has n → Has_then n) → (order : List (ℕ × Name)) → IsClosed r Bad Has order → IsClosed r Bad_then Has_then order
  closed_more has [] c = tt
  closed_more has (x ∷ xs) c = (
    elim c.0 [
      | inl b ↦ inl (bad x.1.bytes b)
      | inr l ↦ inr (has_more (λ n. Among xs n ⊎ Has n) (λ n. Among xs n ⊎ Has_then n) (λ n p. elim p [ inl a ↦ inl a | inr w ↦ inr (has n w) ]) x.1.bytes l)
    ],
    closed_more has xs c.1,
  )

  -- what has one property has another
  pub visited_more : (stands : ℕ → ℕ) (tips : List Bytes) (order : List (ℕ × Name)) → ((n : Bytes) → Has n → Has_then n) → IsVisited r stands Bad Has tips order → IsVisited r stands Bad_then Has_then tips order
  visited_more stands tips order has v = record {
    standing = v.standing;
    closed = closed_more has order v.closed;
    tips_are = all_weaker _ _ (λ n p. elim p [ inl a ↦ inl a | inr w ↦ inr (has n w) ]) tips v.tips_are;
  }
