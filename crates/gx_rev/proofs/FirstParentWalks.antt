-- Walks along first parents: how far up each commit of one is.
use Rattle.std.proofs.Common.{◌≡◌, ℕ, zero, suc, ◌+◌, ◌-◌, ◌<◌, refl, sym, ap, subst, ◌∙◌, arith, List, [], ◌∷◌, ◌++◌, length, Some, ◌⊎◌, inl, inr, Ok, Err}
use Rattle.std.specs.List.{slice_get}
use Rattle.std.specs.Prelude.{slice_index_or}
use Rattle.gx_model.specs.declared.objects.Kind.TheVariants as kinds
use Rattle.gx_model.specs.Faults.{◌>>=◌}
use Rattle.gx_model.specs.Histories.Values.{Commit}
use Rattle.gx_model.specs.Histories.{Records}
use Rattle.gx_model.specs.Revisions.Denotation.{nth_ancestor, nth_parent}
use Rattle.gx_model.proofs.Records.HeldValues.{next_ancestor}
use Rattle.gx_object.specs.declared.name.Name.{Name}
use Rattle.gx_rev.specs.FirstParents.{IsFirstParentWalk}
use Rattle.gx_rev.specs.Objects.{IsHeldAs, commit_at}

-- so many first parents up, and so many more
ancestors_add : (a b : ℕ) (c : Commit) → nth_ancestor (a + b) c ≡ (nth_ancestor a c >>= nth_ancestor b)
ancestors_add zero b c = let s : zero + b ≡ b = omega arith in ap (λ n. nth_ancestor n c) s
ancestors_add (suc a) b c =
    let s : suc a + b ≡ suc (a + b) = omega arith in
    ap (λ n. nth_ancestor n c) s
    ∙ elim (nth_parent 1 c) as (λ o. (o >>= nth_ancestor (a + b)) ≡ ((o >>= nth_ancestor a) >>= nth_ancestor b)) [
      | Ok p ↦ ancestors_add a b p
      | Err e ↦ refl
    ]

got_more : {X : Type 0} (xs : List X) (x y : X) (i : ℕ) → slice_get (xs ++ x ∷ []) i ≡ Some y → (slice_get xs i ≡ Some y) ⊎ ((i ≡ length xs) × (x ≡ y))
got_more [] x y zero e = inr (refl, cc)
got_more [] x y (suc i) e = absurd cc
got_more (z ∷ zs) x y zero e = inl e
got_more (z ∷ zs) x y (suc i) e = elim (got_more zs x y i e) [ inl k ↦ inl k | inr p ↦ inr (ap suc p.0, p.1) ]

pub no_walk : (r : Records) (names : List Name) → length names ≡ 0 → IsFirstParentWalk r names
no_walk r [] l first called place e f = absurd cc
no_walk r (x ∷ xs) l first called place e f = absurd (omega (arith, l))

-- of one commit
pub walk_alone : (r : Records) (names : List Name) (name : Name) → names ≡ name ∷ [] → IsHeldAs kinds.Commit r name → IsFirstParentWalk r names
walk_alone r names name is held = subst (IsFirstParentWalk r) (sym is) by
  where
    by : IsFirstParentWalk r (name ∷ [])
    by first called zero e f =
        let s : name ≡ called = cc in
        let t : name ≡ first = cc in
        (subst (IsHeldAs kinds.Commit r) s held, ap (λ n. Ok (commit_at r n)) (sym t ∙ s))
    by first called (suc i) e f = absurd cc

-- from the last one on
pub walk_on : (r : Records) (names : List Name) (first last : Name) (n number : ℕ) → slice_get names 0 ≡ Some first → slice_get names n ≡ Some last → n < number → IsFirstParentWalk r names
    → nth_ancestor number (commit_at r first) ≡ (nth_parent 1 (commit_at r last) >>= nth_ancestor (number - n - 1))
walk_on r names first last n number e f l walk =
    let s : number ≡ n + (number - n) = omega (arith, l) in
    ap (λ m. nth_ancestor m (commit_at r first)) s
    ∙ ancestors_add n (number - n) (commit_at r first)
    ∙ ap (λ o. o >>= nth_ancestor (number - n)) (walk first last n e f).1
    ∙ next_ancestor (number - n) (commit_at r last) (omega (arith, l))

-- with a first parent more
pub walk_more : (r : Records) (names : List Name) (first last parent : Name) (n : ℕ) → slice_get names 0 ≡ Some first → slice_get names n ≡ Some last → length names ≡ n + 1
    → IsHeldAs kinds.Commit r parent → nth_parent 1 (commit_at r last) ≡ Ok (commit_at r parent) → IsFirstParentWalk r names → IsFirstParentWalk r (names ++ parent ∷ [])
walk_more r names first last parent n e f long held is walk other called place g h = elim (got_more names parent other 0 g) [
  | inr p ↦ absurd (let q = p.0 in omega (arith, long, q))
  | inl b ↦ elim (got_more names parent called place h) [
    | inl k ↦ walk other called place b k
    | inr p ↦ (
      subst (IsHeldAs kinds.Commit r) p.1 held,
      (let s : first ≡ other = (let o : Some first ≡ Some other = sym e ∙ b in cc o) in
          let m : place ≡ n + 1 = p.0 ∙ long in
          ap (λ k. nth_ancestor k (commit_at r other)) m
          ∙ ancestors_add n 1 (commit_at r other)
          ∙ ap (λ o. o >>= nth_ancestor 1) (walk other last n b f).1
          ∙ ap (λ o. o >>= nth_ancestor 0) is
          ∙ ap (λ k. Ok (commit_at r k)) p.1),
    )
  ]
]

-- ---- places in lists

pub got_at : {X : Type 0} (xs : List X) (i : ℕ) (x : X) → i < length xs → x ≡ slice_index_or xs i x → slice_get xs i ≡ Some x
got_at [] i x l e = absurd (omega (arith, l))
got_at (y ∷ ys) zero x l e = ap Some (sym e)
got_at (y ∷ ys) (suc i) x l e = got_at ys i x (omega (arith, l)) e

pub not_empty : {X : Type 0} (xs : List X) (x : X) → slice_get xs 0 ≡ Some x → 0 < length xs
not_empty [] x e = absurd cc
not_empty (y ∷ ys) x e = omega arith

pub front_stays : {X : Type 0} (xs : List X) (x y : X) → slice_get xs 0 ≡ Some x → slice_get (xs ++ y ∷ []) 0 ≡ Some x
front_stays [] x y e = absurd cc
front_stays (z ∷ zs) x y e = e
