-- The commits that a walk has before it, and what they reach.
use Rattle.std.specs.Prelude.{◌≡◌, ◌&&◌, ℕ, Bool, List, map}
use Rattle.std.specs.List.{list_all, list_any}
use Rattle.gx_model.specs.Histories.{Records}
use Rattle.gx_model.specs.Histories.Values.{Commit}
use Rattle.gx_model.specs.Records.HistoryOf.{history_of}
use Rattle.gx_model.specs.Revisions.Ranges.{reaches}
use Rattle.gx_object.specs.declared.name.Name.{Name}
use Rattle.gx_print.specs.Logs.{AreCommits}
use Rattle.gx_ranges.specs.Fronts.{AreTips, lead_to}
use Rattle.gx_rev.specs.Objects.{commit_at}
use Rattle.gx_merge_base.specs.Bases.{all_commits, best, has_behind}

-- held commits at their places, which together reach those that pass
pub record IsFront (stands : ℕ → ℕ) (test : Commit → Bool) (repository : Records) (tips : List (ℕ × Name)) : Type 0 where
  pub tips_are : AreTips stands tips repository
  pub reach : (reached : Commit) → lead_to repository tips reached ≡ test reached

-- whether one of these commits has another one behind it
abbrev pub lead_behind : Records → List (ℕ × Name) → Commit → Bool
lead_behind repository tips reached = list_any (λ tip. has_behind (commit_at repository tip.1) reached) tips

-- whether one of a front's commits, and each of some others, reaches a commit
abbrev pub reached_by_all : Records → List (ℕ × Name) → List Name → Commit → Bool
reached_by_all repository tips commits reached = lead_to repository tips reached && list_all (λ called. reaches (commit_at repository called) reached) commits

-- these are the names of what a front reaches, but for what something of that has behind it
abbrev pub AreBestOf : List (ℕ × Name) → Records → List Name → Type 0
AreBestOf tips repository names =
    (map (commit_at repository) names ≡ best (lead_to repository tips) (all_commits (history_of repository))) × AreCommits repository names
