-- A walk from the newest place down: what it has told, and what it has before it.
use Rattle.std.specs.Prelude.{◌≡◌, ◌<◌, ◌&&◌, ◌++◌, ℕ, suc, Bool, false, not, IsTrue, List, [], ◌∷◌, drop, reverse, Option, Some, None, IfSome, ◌⊎◌}
use Rattle.std.specs.List.{filter, filter_map}
use Rattle.gx_model.specs.Histories.{Records}
use Rattle.gx_model.specs.Histories.Marks.{IsAt}
use Rattle.gx_model.specs.Histories.Values.{Commit, commit_of}
use Rattle.gx_model.specs.Laws.RepositoryLaws.{values_of}
use Rattle.gx_model.specs.Revisions.Ranges.{reaches}
use Rattle.gx_object.specs.declared.name.Name.{Name}
use Rattle.gx_rev.specs.Objects.{commit_at}
use Rattle.gx_ranges.specs.Fronts.{AreBelow, AreTips, behind_last, lead_to}

-- the commits that pass the one test and not the other, from a number on, the newest put first
abbrev pub passing_from : Records → (Commit → Bool) → (Commit → Bool) → ℕ → List Commit
passing_from repository wanted unwanted number =
    filter (λ made. wanted made && not (unwanted made)) (reverse (filter_map commit_of (drop number (values_of repository))))

module _ (stands : ℕ → ℕ) (included excluded : Commit → Bool) where
  -- All that are to be told from a number on have been told. Those before it that are included, and those that are excluded, are
  -- reached from the commits that the walk has before it.
  pub record IsWalk (wanted unwanted : List (ℕ × Name)) (made : List Commit) (number : ℕ) (repository : Records) : Type 0 where
    pub wanted_tips : AreTips stands wanted repository
    pub unwanted_tips : AreTips stands unwanted repository
    pub below : (place : ℕ) (standing : Commit) → IsAt repository place standing → IsTrue (lead_to repository wanted standing) → place < number
    pub only : (reached : Commit) → IsTrue (lead_to repository wanted reached) → IsTrue (included reached)
    pub excludes : (place : ℕ) (standing : Commit) → IsAt repository place standing → place < number → excluded standing ≡ lead_to repository unwanted standing
    pub includes : (place : ℕ) (standing : Commit) → IsAt repository place standing → place < number → IsTrue (included standing)
        → IsTrue (lead_to repository wanted standing) ⊎ IsTrue (lead_to repository unwanted standing)
    pub told : made ≡ passing_from repository included excluded number

  -- The next commit is to be told, and all newer ones were; or all were.
  abbrev pub GivesNext : Records → List Commit → List (ℕ × Name) → List (ℕ × Name) → Option (ℕ × Name) → Type 0
  GivesNext repository told wanted unwanted (Some next) = (number : ℕ) × IsAt repository number (commit_at repository next.1) × (stands number ≡ next.0)
      × IsWalk (wanted ++ next ∷ []) unwanted told (suc number) repository × (excluded (commit_at repository next.1) ≡ false)
  GivesNext repository told wanted unwanted None = told ≡ passing_from repository included excluded 0

-- any walk that stood so has this next
abbrev pub FindsNext : (ℕ → ℕ) → List (ℕ × Name) → List (ℕ × Name) → List (ℕ × Name) → List (ℕ × Name) → Records → Option (ℕ × Name) → Type 0
FindsNext stands wanted unwanted new_wanted new_unwanted repository next =
    (included excluded : Commit → Bool) (told : List Commit) (number : ℕ) → IsWalk stands included excluded wanted unwanted told number repository
    → GivesNext stands included excluded repository told new_wanted new_unwanted next

-- the last of some commits was taken out, and those behind it
abbrev pub TakesLast : List (ℕ × Name) → List (ℕ × Name) → Option (ℕ × Name) → Type 0
TakesLast old new found = IfSome found (λ last. AreBelow last.0 new × (last.0 < behind_last old))

-- whether both of two commits reach a third
abbrev pub reach_both : Commit → Commit → Commit → Bool
reach_both left right reached = reaches left reached && reaches right reached
