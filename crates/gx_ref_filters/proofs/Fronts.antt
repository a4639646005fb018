-- Fronts of commits that reach another one, by their places.
use Rattle.std.proofs.Common.{◌≡◌, ℕ, ◌<◌, ◌≤◌, false, refl, sym, ap, subst, ◌∙◌, arith, List, [], ◌∷◌, ◌++◌, length, inl, inr}
use Rattle.std.specs.Prelude.{IsTrue, ◌&&◌, ◌||◌, nat_eq}
use Rattle.std.specs.BTreeMap.{insert_entry}
use Rattle.std.specs.Ordering.{nat_cmp, match_ordering}
use Rattle.std.specs.declared.cmp.Ordering.TheVariants.{Less, Equal, Greater}
use Rattle.std.proofs.lemmas.Bool.{and_from, and_parts}
use Rattle.std.proofs.lemmas.Bool.Decides.{nat_tests}
use Rattle.std.proofs.lemmas.List.Folds.{list_any-append}
use Rattle.gx_model.specs.declared.objects.Kind.{Kind}
use Rattle.gx_model.specs.Histories.{Records}
use Rattle.gx_model.specs.Histories.Marks.{IsAt}
use Rattle.gx_model.specs.Histories.Values.{Commit}
use Rattle.gx_model.specs.Objects.{IsNamer}
use Rattle.gx_model.specs.Records.Sound.{IsSound}
use Rattle.gx_model.specs.Revisions.Ranges.{reaches}
use Rattle.gx_model.specs.Texts.{Bytes}
use Rattle.gx_model.proofs.Histories.ReachedCommits.{itself}
use Rattle.gx_model.proofs.Texts.PathTests.{is_true}
use Rattle.gx_object.specs.declared.name.Name.{Name}
use Rattle.gx_objects.specs.Answers.{GoesUp}
use Rattle.gx_ranges.specs.Fronts.{AreBelow, AreTips, IsTip}
use Rattle.gx_ranges.proofs.Reached.{one_commit, or_either, or_first, or_none, or_second, reached_before}
use Rattle.gx_ranges.proofs.Tips.{not_behind, number_of, one_number, one_tip}
use Rattle.gx_rev.specs.Objects.{commit_at}
use Rattle.gx_ref_filters.specs.Steps.{Reaching, reaches_from}
use Rattle.gx_ref_filters.proofs.Leading.{at_itself, at_same, same_place}

abbrev Tip : Type 0
Tip = ℕ × Name

same_number : (k x : ℕ) → nat_cmp k x ≡ Equal → k ≡ x
same_number k x e = grind (arith, nat_tests)

-- a commit of a front stands below what all of them do
pub from_below : (r : Records) (limit : ℕ) (xs : List Tip) (goal : Commit) (k : ℕ) → AreBelow limit xs → IsTrue (reaches_from r xs goal k) → k < limit
from_below r limit [] goal k b h = absurd cc
from_below r limit (x ∷ xs) goal k b h = elim (or_either (nat_eq x.0 k && reaches (commit_at r x.1) goal) (reaches_from r xs goal k) h) [
  | inl a ↦
      let e = same_place x.0 k (and_parts (nat_eq x.0 k) (reaches (commit_at r x.1) goal) a).0 in
      let l = b.0 in omega (arith, e, l)
  | inr a ↦ from_below r limit xs goal k b.1 a
]

-- a front with one commit behind it
pub from_last : (r : Records) (xs : List Tip) (x : Tip) (goal : Commit) (k : ℕ) → reaches_from r (xs ++ x ∷ []) goal k ≡ (reaches_from r xs goal k || (nat_eq x.0 k && reaches (commit_at r x.1) goal))
from_last r xs x goal k =
    list_any-append (λ tip. nat_eq tip.0 k && reaches (commit_at r tip.1) goal) xs (x ∷ [])
    ∙ ap (λ b. reaches_from r xs goal k || b) (or_none (nat_eq x.0 k && reaches (commit_at r x.1) goal))

module _ (name : Kind → Bytes → Bytes) (namer : IsNamer name) (r : Records) (sound : IsSound name r) (stands : ℕ → ℕ) (order : GoesUp stands (length r.records)) where
  -- ---- the commit at a place

  pub tip_reaches : (tip : Tip) (goal : Commit) → IsTip stands r tip → IsTrue (reaches (commit_at r tip.1) goal) → Reaching stands r goal tip.0
  tip_reaches tip goal t h =
      let n = number_of name namer r sound stands order tip t in
      record { number = n.0; from = commit_at r tip.1; at = n.1; there = n.2; reach = h }

  pub reaching_tip : (tip : Tip) (goal : Commit) → IsTip stands r tip → Reaching stands r goal tip.0 → IsTrue (reaches (commit_at r tip.1) goal)
  reaching_tip tip goal t w =
      let n = number_of name namer r sound stands order tip t in
      let i = one_number name namer r sound stands order w.number n.0 w.from (commit_at r tip.1) w.at n.1 (w.there ∙ sym n.2) in
      let same = one_commit r n.0 w.from (commit_at r tip.1) (subst (λ j. IsAt r j w.from) i w.at) n.1 in
      subst (λ c. IsTrue (reaches c goal)) same w.reach

  pub from_reaching : (xs : List Tip) (goal : Commit) (k : ℕ) → AreTips stands xs r → IsTrue (reaches_from r xs goal k) → Reaching stands r goal k
  from_reaching [] goal k t h = absurd cc
  from_reaching (x ∷ xs) goal k t h = elim (or_either (nat_eq x.0 k && reaches (commit_at r x.1) goal) (reaches_from r xs goal k) h) [
    | inl a ↦
        let w = and_parts (nat_eq x.0 k) (reaches (commit_at r x.1) goal) a in
        subst (Reaching stands r goal) (same_place x.0 k w.0) (tip_reaches x goal t.0 w.1)
    | inr a ↦ from_reaching xs goal k t.1 a
  ]

  -- what stands behind a commit and reaches it stands behind its place
  pub not_before : (goal : Commit) (number place k : ℕ) → IsAt r number goal → stands number ≡ place → Reaching stands r goal k → place ≤ k
  not_before goal number place k at s w =
      let l = reached_before name namer r sound w.from goal w.number number w.at at w.reach in
      let m = not_behind name namer r sound stands order number w.number goal w.from at w.at l in
      let e = w.there in omega (arith, m, e, s)

  pub goal_reaches : (goal : Commit) (number place : ℕ) → IsAt r number goal → stands number ≡ place → (k : ℕ) → IsTrue (nat_eq place k) → Reaching stands r goal k
  goal_reaches goal number place at s k h =
      record { number = number; from = goal; at = at; there = s ∙ same_place place k h; reach = is_true _ (itself goal) }

  -- ---- a commit more

  moved : (p x : ℕ) (n : Name) → p ≡ x → IsTip stands r (p, n) → IsTip stands r (x, n)
  moved p x n e h = subst (λ q. IsTip stands r (q, n)) e h

  pub kept_from : (p : ℕ) (n : Name) (xs : List Tip) (goal : Commit) (k : ℕ) → IsTip stands r (p, n) → AreTips stands xs r → IsTrue (reaches_from r xs goal k) → IsTrue (reaches_from r (insert_entry nat_cmp xs p n) goal k)
  kept_from p n [] goal k t h e = absurd cc
  kept_from p n (x ∷ xs) goal k t h e =
      elim (nat_cmp p x.0) as (λ o. nat_cmp p x.0 ≡ o → IsTrue (reaches_from r (match_ordering o ((p, n) ∷ x ∷ xs) ((x.0, n) ∷ xs) (x ∷ insert_entry nat_cmp xs p n)) goal k)) [
        | Less ↦ λ f. or_second (nat_eq p k && reaches (commit_at r n) goal) (reaches_from r (x ∷ xs) goal k) e
        | Equal ↦ λ f.
            let same = one_tip name namer r sound stands order x.0 n x.1 (moved p x.0 n (same_number p x.0 f) t) h.0 in
            subst (λ c. IsTrue ((nat_eq x.0 k && reaches c goal) || reaches_from r xs goal k)) (sym same) e
        | Greater ↦ λ f. elim (or_either (nat_eq x.0 k && reaches (commit_at r x.1) goal) (reaches_from r xs goal k) e) [
          | inl a ↦ or_first (nat_eq x.0 k && reaches (commit_at r x.1) goal) (reaches_from r (insert_entry nat_cmp xs p n) goal k) a
          | inr a ↦ or_second (nat_eq x.0 k && reaches (commit_at r x.1) goal) (reaches_from r (insert_entry nat_cmp xs p n) goal k) (kept_from p n xs goal k t h.1 a)
        ]
      ] refl

  pub new_from : (p : ℕ) (n : Name) (xs : List Tip) (goal : Commit) → IsTrue (reaches (commit_at r n) goal) → IsTrue (reaches_from r (insert_entry nat_cmp xs p n) goal p)
  new_from p n [] goal e = or_first (nat_eq p p && reaches (commit_at r n) goal) false (and_from (nat_eq p p) (reaches (commit_at r n) goal) (at_itself p) e)
  new_from p n (x ∷ xs) goal e =
      elim (nat_cmp p x.0) as (λ o. nat_cmp p x.0 ≡ o → IsTrue (reaches_from r (match_ordering o ((p, n) ∷ x ∷ xs) ((x.0, n) ∷ xs) (x ∷ insert_entry nat_cmp xs p n)) goal p)) [
        | Less ↦ λ f. or_first (nat_eq p p && reaches (commit_at r n) goal) (reaches_from r (x ∷ xs) goal p) (and_from (nat_eq p p) (reaches (commit_at r n) goal) (at_itself p) e)
        | Equal ↦ λ f. or_first (nat_eq x.0 p && reaches (commit_at r n) goal) (reaches_from r xs goal p) (and_from (nat_eq x.0 p) (reaches (commit_at r n) goal) (at_same x.0 p (sym (same_number p x.0 f))) e)
        | Greater ↦ λ f. or_second (nat_eq x.0 p && reaches (commit_at r x.1) goal) (reaches_from r (insert_entry nat_cmp xs p n) goal p) (new_from p n xs goal e)
      ] refl
