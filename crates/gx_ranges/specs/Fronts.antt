-- The commits that a walk has before it, by their places, and what they reach.
use Rattle.std.specs.Prelude.{◌≡◌, ◌<◌, ◌≤◌, ◌||◌, ◌++◌, ℕ, suc, Bool, IsTrue, List, [], ◌∷◌, Option, Some, None}
use Rattle.std.specs.List.{AllByRecursion, list_any}
use Rattle.gx_model.specs.declared.objects.Kind.TheVariants as kinds
use Rattle.gx_model.specs.Histories.{Records}
use Rattle.gx_model.specs.Histories.Marks.{IsAt}
use Rattle.gx_model.specs.Histories.Values.{Commit}
use Rattle.gx_model.specs.Revisions.Ranges.{reaches}
use Rattle.gx_object.specs.declared.name.Name.{Name}
use Rattle.gx_objects.specs.Answers.{StandsThere}
use Rattle.gx_rev.specs.Objects.{IsHeldAs, commit_at}
use Rattle.gx_store.specs.Stores.{place_named}

-- a held commit stands at a place
abbrev pub IsTip : (ℕ → ℕ) → Records → ℕ × Name → Type 0
IsTip stands repository tip = IsHeldAs kinds.Commit repository tip.1 × StandsThere stands tip.1.bytes repository (Some tip.0)

-- each of these does
abbrev pub AreTips : (ℕ → ℕ) → List (ℕ × Name) → Records → Type 0
AreTips stands tips repository = AllByRecursion (IsTip stands repository) tips

-- whether one of these commits reaches another
abbrev pub lead_to : Records → List (ℕ × Name) → Commit → Bool
lead_to repository tips reached = list_any (λ tip. reaches (commit_at repository tip.1) reached) tips

-- all of these stand before a place
abbrev pub AreBelow : ℕ → List (ℕ × Name) → Type 0
AreBelow place tips = AllByRecursion (λ tip. tip.0 < place) tips

-- a held object stands before a place
abbrev pub StandsBefore : (ℕ → ℕ) → ℕ → Name → Records → Type 0
StandsBefore stands place called repository = (number : ℕ) → place_named repository.records called.bytes ≡ Some number → stands number < place

-- the last of some commits, behind all the others
abbrev pub IsLast : List (ℕ × Name) → List (ℕ × Name) → ℕ × Name → Type 0
IsLast old new last = (old ≡ new ++ last ∷ []) × AreBelow last.0 new

-- it stands behind a place; where there is none, no commit does
abbrev pub IsLastBehind : ℕ → List (ℕ × Name) → List (ℕ × Name) → Option (ℕ × Name) → Type 0
IsLastBehind place old new (Some last) = (place < last.0) × IsLast old new last
IsLastBehind place old new None = (new ≡ old) × AreBelow (suc place) old

-- besides what was reached, these commits reach those that pass
pub record Adds (stands : ℕ → ℕ) (test : Commit → Bool) (old new : List (ℕ × Name)) (repository : Records) : Type 0 where
  pub tips : AreTips stands new repository
  pub reach : (reached : Commit) → lead_to repository new reached ≡ (lead_to repository old reached || test reached)

-- these commits reach what the others did up to a place, and nothing more
pub record GoesDown (stands : ℕ → ℕ) (place : ℕ) (old new : List (ℕ × Name)) (repository : Records) : Type 0 where
  pub tips : AreTips stands new repository
  pub same : (number : ℕ) (standing : Commit) → IsAt repository number standing → stands number ≤ place
      → lead_to repository new standing ≡ lead_to repository old standing
  pub only : (reached : Commit) → IsTrue (lead_to repository new reached) → IsTrue (lead_to repository old reached)

-- one of these commits reaches the commit at a place
abbrev pub LeadsToPlace : (ℕ → ℕ) → ℕ → List (ℕ × Name) → Records → Bool → Type 0
LeadsToPlace stands place tips repository is_reached =
    (number : ℕ) (standing : Commit) → IsAt repository number standing → stands number ≡ place → is_reached ≡ lead_to repository tips standing

-- behind the place of the last one
abbrev pub behind_last : List (ℕ × Name) → ℕ
behind_last [] = 0
behind_last (x ∷ []) = suc x.0
behind_last (x ∷ y ∷ ys) = behind_last (y ∷ ys)
