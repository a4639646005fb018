-- Steps of a walk from commits down to their parents, by places, and what is reached by them.
use Rattle.std.specs.Prelude.{◌≡◌, ◌<◌, ◌&&◌, ◌||◌, ◌++◌, nat_eq, ℕ, Bool, IsTrue, List, [], ◌∷◌}
use Rattle.std.specs.BTreeSet.{BTreeSet, contains}
use Rattle.std.specs.List.{AllByRecursion, list_any}
use Rattle.std.specs.Ordering.{nat_cmp}
use Rattle.gx_model.specs.Histories.{Records}
use Rattle.gx_model.specs.Histories.Marks.{IsAt}
use Rattle.gx_model.specs.Histories.Values.{Commit}
use Rattle.gx_model.specs.Revisions.Ranges.{reaches}
use Rattle.gx_object.specs.declared.name.Name.{Name}
use Rattle.gx_ranges.specs.Fronts as fronts
use Rattle.gx_rev.specs.Objects.{commit_at}
use Rattle.gx_tips.specs.declared.tips.Tip.{Tip}

-- a step from a commit's place to that of one of its parents
abbrev pub Step : Type 0
Step = ℕ × ℕ

-- whether steps lead from a place to one that passes; each step comes before those that may follow it
abbrev pub leads_by : (ℕ → Bool) → List Step → ℕ → Bool
leads_by test [] place = test place
leads_by test (step ∷ steps) place = leads_by test steps place || (nat_eq step.0 place && leads_by test steps step.1)

-- whether a commit of a front stands at a place and reaches another commit
abbrev pub reaches_from : Records → List (ℕ × Name) → Commit → ℕ → Bool
reaches_from repository front goal place = list_any (λ tip. nat_eq tip.0 place && reaches (commit_at repository tip.1) goal) front

-- a commit stands at a place and reaches another
pub record Reaching (stands : ℕ → ℕ) (repository : Records) (goal : Commit) (place : ℕ) : Type 0 where
  pub number : ℕ
  pub from : Commit
  pub at : IsAt repository number from
  pub there : stands number ≡ place
  pub reach : IsTrue (reaches from goal)

-- from where steps lead to places of commits that reach another, a commit reaches it, too
abbrev pub AreSound : (ℕ → ℕ) → Records → List Step → Type 0
AreSound stands repository steps =
    (goal : Commit) (test : ℕ → Bool) → ((place : ℕ) → IsTrue (test place) → Reaching stands repository goal place)
    → (place : ℕ) → IsTrue (leads_by test steps place) → Reaching stands repository goal place

-- from the commits of one front that reach a commit before a limit, steps lead to those of another that do
abbrev pub LeadOn : (ℕ → ℕ) → Records → (ℕ → Type 0) → List (ℕ × Name) → List (ℕ × Name) → List Step → Type 0
LeadOn stands repository Within old new steps =
    (number : ℕ) (goal : Commit) → IsAt repository number goal → Within (stands number)
    → (place : ℕ) → IsTrue (reaches_from repository old goal place) → IsTrue (leads_by (reaches_from repository new goal) steps place)

-- The commit at a place went out of a front, its parents came in, and the steps to these were taken.
pub record TakesSteps (stands : ℕ → ℕ) (last : ℕ × Name) (old new : List (ℕ × Name)) (before after : List Step) (repository : Records) : Type 0 where
  pub tips : fronts.AreTips stands new repository
  pub taken : List Step
  pub more : after ≡ before ++ taken
  pub sound : AreSound stands repository taken
  pub lead : LeadOn stands repository (λ place. place < last.0) (old ++ last ∷ []) new taken

-- The commits of a front that reach the one at a place are those from whose places steps lead there.
pub record AreSteps (stands : ℕ → ℕ) (place : ℕ) (front : List (ℕ × Name)) (repository : Records) (steps : List Step) : Type 0 where
  pub only : (number : ℕ) (goal : Commit) → IsAt repository number goal → stands number ≡ place
      → (from : ℕ) → IsTrue (leads_by (nat_eq place) steps from) → Reaching stands repository goal from
  pub all : (number : ℕ) (goal : Commit) → IsAt repository number goal → stands number ≡ place
      → (from : ℕ) → IsTrue (reaches_from repository front goal from) → IsTrue (leads_by (nat_eq place) steps from)

-- these places are those from which steps lead to a place
abbrev pub AreLeading : ℕ → List Step → BTreeSet ℕ → Type 0
AreLeading place steps places = (from : ℕ) → contains nat_cmp places from ≡ leads_by (nat_eq place) steps from

-- of each ref whose commit reaches another, the front has the commit at its place
abbrev pub HoldsRef : Records → List (ℕ × Name) → Tip → Type 0
HoldsRef repository front tip = (goal : Commit) → IsTrue (reaches (commit_at repository tip.commit) goal) → IsTrue (reaches_from repository front goal tip.place)

pub record HoldsRefs (stands : ℕ → ℕ) (refs : List Tip) (repository : Records) (front : List (ℕ × Name)) : Type 0 where
  pub tips : fronts.AreTips stands front repository
  pub each : AllByRecursion (HoldsRef repository front) refs
