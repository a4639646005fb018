-- How many objects are marked, and how many bytes the bodies of the others have.
use Rattle.std.proofs.Common.{◌≡◌, ℕ, zero, suc, ◌+◌, Bool, true, false, cond, List, [], ◌∷◌, length, map, drop, get_or, Some, refl, ap, ◌∙◌, arith}
use Rattle.std.specs.List.{filter, slice_get}
use Rattle.std.proofs.lemmas.List.{drop_more}
use Rattle.std.proofs.lemmas.Option.{get_or_from_slice_get, slice_get_within}
use Rattle.gx_model.specs.Histories.{Record}
use Rattle.gx_store.specs.Marked.{first_mark, marked}
use Rattle.gx_listed.specs.Listings.{HaveHeads, Listed, head_of, shown_head}

-- as many are left as marks stand
pub marked_long : {X : Type 0} (marks : List Bool) (xs : List X) → length marks ≡ length xs → length (marked marks xs) ≡ length (filter (λ mark. mark) marks)
marked_long [] [] h = refl
marked_long [] (x ∷ xs) h = absurd (omega (arith, h))
marked_long (m ∷ marks) [] h = absurd (omega (arith, h))
marked_long (m ∷ marks) (x ∷ xs) h = by m (marked_long marks xs (omega (arith, h)))
  where
    by : (b : Bool) → length (marked marks xs) ≡ length (filter (λ mark. mark) marks) → length (cond b (x ∷ marked marks xs) (marked marks xs)) ≡ length (cond b (b ∷ filter (λ mark. mark) marks) (filter (λ mark. mark) marks))
    by true e = ap suc e
    by false e = e

-- what is known of those that are marked is what is known of the objects that are marked
pub marked_heads : (marks : List Bool) (listed : List Listed) (rs : List Record) → HaveHeads listed rs → HaveHeads (marked marks listed) (marked marks rs)
marked_heads marks [] [] h = refl
marked_heads marks [] (r ∷ rs) h = absurd (cc)
marked_heads marks (o ∷ os) [] h = absurd (cc)
marked_heads marks (o ∷ os) (r ∷ rs) h =
    let one : shown_head o ≡ head_of r = cc in
    let more : map shown_head os ≡ map head_of rs = cc in
    by (first_mark marks) one (marked_heads (drop 1 marks) os rs more)
  where
    by : (b : Bool) → shown_head o ≡ head_of r → HaveHeads (marked (drop 1 marks) os) (marked (drop 1 marks) rs)
        → map shown_head (cond b (o ∷ marked (drop 1 marks) os) (marked (drop 1 marks) os)) ≡ map head_of (cond b (r ∷ marked (drop 1 marks) rs) (marked (drop 1 marks) rs))
    by true e k = λ i. e i ∷ k i
    by false e k = k

-- ---- one after the other

at_mark : (marks : List Bool) (i : ℕ) → first_mark (drop i marks) ≡ get_or marks i false
at_mark [] zero = refl
at_mark [] (suc i) = refl
at_mark (m ∷ marks) zero = refl
at_mark (m ∷ marks) (suc i) = at_mark marks i

behind_mark : (marks : List Bool) (i : ℕ) → drop 1 (drop i marks) ≡ drop (i + 1) marks
behind_mark [] zero = refl
behind_mark [] (suc i) = let s : suc i + 1 ≡ suc (i + 1) = omega arith in rw s refl
behind_mark (m ∷ marks) zero = refl
behind_mark (m ∷ marks) (suc i) = let s : suc i + 1 ≡ suc (i + 1) = omega arith in rw s (behind_mark marks i)

module _ {X : Type 0} (marks : List Bool) (xs : List X) (i : ℕ) (x : X) (at : slice_get xs i ≡ Some x) where
  here : drop i xs ≡ x ∷ drop (i + 1) xs
  here = drop_more xs i x (slice_get_within xs i x at) ∙ ap (λ y. y ∷ drop (i + 1) xs) (get_or_from_slice_get xs i x x at)

  left : (b : Bool) → get_or marks i false ≡ b → marked (drop i marks) (drop i xs) ≡ cond b (x ∷ marked (drop (i + 1) marks) (drop (i + 1) xs)) (marked (drop (i + 1) marks) (drop (i + 1) xs))
  left b e =
      ap (marked (drop i marks)) here
      ∙ (λ j. cond ((at_mark marks i ∙ e) j) (x ∷ marked (behind_mark marks i j) (drop (i + 1) xs)) (marked (behind_mark marks i j) (drop (i + 1) xs)))

  -- one that is marked comes before those that are left
  pub marked_on : get_or marks i false ≡ true → marked (drop i marks) (drop i xs) ≡ x ∷ marked (drop (i + 1) marks) (drop (i + 1) xs)
  marked_on e = left true e

  -- one that isn't leaves the same
  pub marked_past : get_or marks i false ≡ false → marked (drop i marks) (drop i xs) ≡ marked (drop (i + 1) marks) (drop (i + 1) xs)
  marked_past e = left false e
