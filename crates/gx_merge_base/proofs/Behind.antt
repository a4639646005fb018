-- What a front's commits have behind them, and which of them none has behind it.
use Rattle.std.proofs.Common.{◌≡◌, ℕ, Bool, sym, ap, subst, ◌∙◌, List, [], ◌∷◌, map, Option, Some, None, Result, Ok, Err, inl, inr}
use Rattle.std.specs.Prelude.{IfSome, IsTrue, ◌&&◌, not}
use Rattle.std.specs.List.{filter_map, list_any}
use Rattle.std.specs.declared.vec.Vec.{Vec}
use Rattle.std.proofs.lemmas.List.Elements.{filter_agree}
use Rattle.gx_model.specs.declared.objects.Kind.{Kind}
use Rattle.gx_model.specs.Histories.{Records}
use Rattle.gx_model.specs.Histories.Values.{Commit, Commits, commit_of, more, none, parents_of}
use Rattle.gx_model.specs.Laws.RepositoryLaws.{values_of}
use Rattle.gx_model.specs.Objects.{IsNamer}
use Rattle.gx_model.specs.Records.HistoryOf.{history_of}
use Rattle.gx_model.specs.Records.Sound.{IsSound}
use Rattle.gx_model.specs.Revisions.Ranges.{reaches, some_reaches}
use Rattle.gx_model.specs.Texts.{Bytes}
use Rattle.gx_model.proofs.Histories.ReachedCommits.{itself}
use Rattle.gx_model.proofs.Texts.PathTests.{is_true}
use Rattle.gx_object.specs.declared.name.Name.{Name}
use Rattle.gx_objects.specs.Answers.{Tells}
use Rattle.gx_objects.specs.declared.fault.LookFault.{LookFault}
use Rattle.gx_rev.specs.Objects.{commit_at}
use Rattle.gx_ranges.specs.Fronts.{AreTips, IsTip, lead_to}
use Rattle.gx_ranges.specs.Listings.{AreReached}
use Rattle.gx_ranges.proofs.Reached.{by_parents, or_either, or_first, or_second, reaches_by, reaches_further, same_tests}
use Rattle.gx_ranges.proofs.Steps.{StandsInOrder}
use Rattle.gx_ranges.proofs.Tips.{number_of}
use Rattle.gx_merge_base.specs.Bases.{AreBases, all_commits, best, has_behind, is_common}
use Rattle.gx_merge_base.specs.Fronts.{AreBestOf, IsFront, lead_behind}
use Rattle.gx_merge_base.proofs.Tests.{any_commit, any_turned, both_if, both_of, some_passing}

abbrev Tip : Type 0
Tip = ℕ × Name

-- what is reached by what one of some parents reaches
pub some_further : (cs : Commits) (b c : Commit) → IsTrue (some_reaches cs b) → IsTrue (reaches b c) → IsTrue (some_reaches cs c)
some_further none b c h k = absurd cc
some_further (more x xs) b c h k = elim (or_either (reaches x b) (some_reaches xs b) h) [
  | inl a ↦ or_first (reaches x c) (some_reaches xs c) (reaches_further x b c a k)
  | inr a ↦ or_second (reaches x c) (some_reaches xs c) (some_further xs b c a k)
]

-- what has a commit behind it that has another one behind it
pub behind_further : (x d c : Commit) → IsTrue (reaches x d) → IsTrue (has_behind d c) → IsTrue (has_behind x c)
behind_further x d c h k = elim (reaches_by x d h) [
  | inl e ↦ subst (λ y. IsTrue (has_behind y c)) (sym e) k
  | inr a ↦ some_further (parents_of x) d c a (by_parents d c k)
]

module _ (r : Records) where
  -- what a reached commit has behind it, one of the front has
  pub leads_behind : (xs : List Tip) (d c : Commit) → IsTrue (lead_to r xs d) → IsTrue (has_behind d c) → IsTrue (lead_behind r xs c)
  leads_behind [] d c h k = absurd cc
  leads_behind (x ∷ xs) d c h k = elim (or_either (reaches (commit_at r x.1) d) (lead_to r xs d) h) [
    | inl a ↦ or_first (has_behind (commit_at r x.1) c) (lead_behind r xs c) (behind_further (commit_at r x.1) d c a k)
    | inr a ↦ or_second (has_behind (commit_at r x.1) c) (lead_behind r xs c) (leads_behind xs d c a k)
  ]

  -- one of the front that has a commit behind it
  pub tip_before : (stands : ℕ → ℕ) (xs : List Tip) (c : Commit) → AreTips stands xs r → IsTrue (lead_behind r xs c)
      → (tip : Tip) × IsTip stands r tip × IsTrue (lead_to r xs (commit_at r tip.1)) × IsTrue (has_behind (commit_at r tip.1) c)
  tip_before stands [] c t h = absurd cc
  tip_before stands (x ∷ xs) c t h = elim (or_either (has_behind (commit_at r x.1) c) (lead_behind r xs c) h) [
    | inl a ↦ (x, t.0, or_first (reaches (commit_at r x.1) (commit_at r x.1)) (lead_to r xs (commit_at r x.1)) (is_true _ (itself (commit_at r x.1))), a)
    | inr a ↦ let w = tip_before stands xs c t.1 a in (w.0, w.1, or_second (reaches (commit_at r x.1) (commit_at r w.0.1)) (lead_to r xs (commit_at r w.0.1)) w.2, w.3)
  ]

-- some commit of a history that passes has another one behind it
abbrev some_before : Records → (Commit → Bool) → Commit → Bool
some_before r test c = list_any (λ d. test d && has_behind d c) (all_commits (history_of r))

module _ (name : Kind → Bytes → Bytes) (namer : IsNamer name) (r : Records) (sound : IsSound name r) (stands : ℕ → ℕ) (order : StandsInOrder stands r) (tips : List Tip) (are : AreTips stands tips r) where
  -- something that a front reaches has a commit behind it just where one of the front has
  pub same_behind : (c : Commit) → lead_behind r tips c ≡ some_before r (lead_to r tips) c
  same_behind c = same_tests _ _
      (λ h.
      let w = tip_before r stands tips c are h in
      let n = number_of name namer r sound stands order w.0 w.1 in
      let p : Commit → Bool = λ d. lead_to r tips d && has_behind d c in
      any_turned p (filter_map commit_of (values_of r)) ∙ any_commit p (values_of r) n.0 (commit_at r w.0.1) n.1 (both_if (lead_to r tips (commit_at r w.0.1)) (has_behind (commit_at r w.0.1) c) w.2 w.3))
      (λ h.
      let d = some_passing (λ d. lead_to r tips d && has_behind d c) (all_commits (history_of r)) h in
      let b = both_of (lead_to r tips d.0) (has_behind d.0 c) d.1 in
      leads_behind r tips d.0 c b.0 b.1)

  -- what a front reaches and its parents don't are the best of what it reaches
  pub best_reached : (behind : List Tip) (names : List Name) → IsFront stands (lead_behind r tips) r behind → AreReached tips behind r names → AreBestOf tips r names
  best_reached behind names f a = (
    a.commits ∙ filter_agree (λ c. lead_to r tips c && not (lead_to r behind c)) (λ c. lead_to r tips c && not (some_before r (lead_to r tips) c)) (λ c. ap (λ b. lead_to r tips c && not b) (f.reach c ∙ same_behind c)) (all_commits (history_of r)),
    a.held,
  )

-- ---- the same of the repository that is told

pub best_told : {A : Type 0} (name : Kind → Bytes → Bytes) (namer : IsNamer name) (stands : ℕ → ℕ) (tips behind : List Tip) (told : Option Records) (result : Result (Vec Name A) LookFault)
    → IfSome told (IsSound name) → IfSome told (StandsInOrder stands) → IfSome told (AreTips stands tips)
    → IfSome told (λ r. IsFront stands (lead_behind r tips) r behind) → Tells told (λ r names. AreReached tips behind r names.items) result → Tells told (λ r names. AreBestOf tips r names.items) result
best_told name namer stands tips behind None result s o t f a = tt
best_told name namer stands tips behind (Some r) (Err fault) s o t f a = tt
best_told name namer stands tips behind (Some r) (Ok names) s o t f a = best_reached name namer r s stands o tips t behind names.items f a

pub bases_told : {A : Type 0} (octopus : Bool) (stands : ℕ → ℕ) (commits : List Name) (tips : List Tip) (told : Option Records) (result : Result (Vec Name A) LookFault)
    → IfSome told (λ r. IsFront stands (is_common octopus (map (commit_at r) commits)) r tips) → Tells told (λ r names. AreBestOf tips r names.items) result → Tells told (λ r names. AreBases octopus commits r names.items) result
bases_told octopus stands commits tips None result f b = tt
bases_told octopus stands commits tips (Some r) (Err fault) f b = tt
bases_told octopus stands commits tips (Some r) (Ok names) f b = (b.0 ∙ (λ i. best (λ c. f.reach c i) (all_commits (history_of r))), b.1)
