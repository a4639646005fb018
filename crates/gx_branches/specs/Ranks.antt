-- Commits that a walk has before it, each with the number of a tip that reaches it.
use Rattle.std.specs.Prelude.{◌≡◌, ◌<◌, ◌≤◌, ◌&&◌, ◌||◌, ◌++◌, ℕ, suc, nat_lt, Bool, List, [], ◌∷◌, map, length, take, Option, Some, None}
use Rattle.std.specs.BTreeMap.{is_at}
use Rattle.std.specs.List.{filter, list_any, slice_get}
use Rattle.std.specs.List.Sorted.{IsStrictlySortedBy}
use Rattle.std.specs.Map.{keys_of, lookup}
use Rattle.std.specs.Ordering.{nat_cmp}
use Rattle.gx_model.specs.Histories.{Records}
use Rattle.gx_model.specs.Histories.Marks.{IsAt}
use Rattle.gx_model.specs.Histories.Values.{Commit}
use Rattle.gx_model.specs.Revisions.Ranges.{reaches}
use Rattle.gx_object.specs.declared.name.Name.{Name}
use Rattle.gx_ranges.specs.Fronts as fronts
use Rattle.gx_ranges.specs.Fronts.{AreBelow, lead_to}
use Rattle.gx_rev.specs.Objects.{commit_at}
use Rattle.gx_tips.specs.declared.tips.Tip.{Tip}

-- a commit by its place, with a number
abbrev pub Ranked : Type 0
Ranked = ℕ × (Name × ℕ)

-- without the number
abbrev pub unranked : Ranked → ℕ × Name
unranked ranked = (ranked.0, ranked.1.0)

abbrev pub all_unranked : List Ranked → List (ℕ × Name)
all_unranked front = map unranked front

-- whether one of these with a number below a limit reaches a commit
abbrev pub lead_below : Records → List Ranked → ℕ → Commit → Bool
lead_below repository front limit reached = lead_to repository (all_unranked (filter (λ ranked. nat_lt ranked.1.1 limit) front)) reached

-- each is held and stands at its place, in the order of places
pub record AreRanked (stands : ℕ → ℕ) (front : List Ranked) (repository : Records) : Type 0 where
  pub tips : fronts.AreTips stands (all_unranked front) repository
  pub order : IsStrictlySortedBy nat_cmp (keys_of front)

-- besides what was reached with lower numbers, these reach what passes with this number
pub record Lowers (stands : ℕ → ℕ) (test : Commit → Bool) (rank : ℕ) (old new : List Ranked) (repository : Records) : Type 0 where
  pub ranked : AreRanked stands new repository
  pub leads : (limit : ℕ) (reached : Commit) → lead_below repository new limit reached ≡ (lead_below repository old limit reached || (nat_lt rank limit && test reached))

-- what was reached up to a place is so with the same numbers
pub record HandsDown (stands : ℕ → ℕ) (place : ℕ) (old new : List Ranked) (repository : Records) : Type 0 where
  pub ranked : AreRanked stands new repository
  pub same : (limit number : ℕ) (standing : Commit) → IsAt repository number standing → stands number ≤ place
      → lead_below repository new limit standing ≡ lead_below repository old limit standing

-- the last one, which stands behind a place, was taken out; where there is none, none stands behind it
abbrev pub TakesBehind : ℕ → List Ranked → List Ranked → Option Ranked → Type 0
TakesBehind place old new (Some last) = (place < last.0) × (old ≡ new ++ last ∷ []) × AreBelow last.0 (all_unranked new)
TakesBehind place old new None = (new ≡ old) × AreBelow (suc place) (all_unranked old)

-- the number of what was found, or another where nothing was
abbrev pub rank_or : ℕ → Option (Name × ℕ) → ℕ
rank_or other None = other
rank_or other (Some found) = found.1

-- the number that stands at a place, or another where none does
abbrev pub rank_there : List Ranked → ℕ → ℕ → ℕ
rank_there front place other = rank_or other (lookup (is_at (nat_cmp place)) front)

-- whether the commit of one of these tips reaches another
abbrev pub tips_reach : Records → List Tip → Commit → Bool
tips_reach repository tips reached = list_any (λ tip. reaches (commit_at repository tip.commit) reached) tips

-- with numbers below a limit these reach what the tips before it do
pub record HoldTips (stands : ℕ → ℕ) (tips : List Tip) (repository : Records) (front : List Ranked) : Type 0 where
  pub ranked : AreRanked stands front repository
  pub leads : (limit : ℕ) (reached : Commit) → limit ≤ length tips → lead_below repository front limit reached ≡ tips_reach repository (take limit tips) reached

-- it is the least number with which these reach a commit, or this count where they don't
abbrev pub IsRank : List Ranked → ℕ → Records → Commit → ℕ → Type 0
IsRank front count repository made rank = (limit : ℕ) → limit ≤ count → nat_lt rank limit ≡ lead_below repository front limit made

-- these are the numbers of some commits
pub record AreRanks (front : List Ranked) (count : ℕ) (names : List Name) (repository : Records) (ranks : List ℕ) : Type 0 where
  pub long : length ranks ≡ length names
  pub each : (number : ℕ) (commit : Name) (rank : ℕ) → slice_get names number ≡ Some commit → slice_get ranks number ≡ Some rank
      → IsRank front count repository (commit_at repository commit) rank
