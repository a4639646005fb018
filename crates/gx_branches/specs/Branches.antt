-- The ref that each commit goes out on.
use Rattle.std.specs.Prelude.{◌≡◌, ℕ, Bool, nat_lt, List, ◌++◌, length, Option, Some, None}
use Rattle.std.specs.List.{filter, list_all, slice_get}
use Rattle.gx_model.specs.Changes.{commit_ref, is_branch}
use Rattle.gx_model.specs.Export.{carrier, is_reached}
use Rattle.gx_model.specs.Histories.{Records}
use Rattle.gx_model.specs.Texts.{Bytes}
use Rattle.gx_object.specs.declared.name.Name.{Name}
use Rattle.gx_rev.specs.Objects.{commit_at}
use Rattle.gx_tips.specs.Tips.{targets}
use Rattle.gx_tips.specs.declared.tips.Tip.{Tip}
use Rattle.gx_branches.specs.declared.branches.Branches.{Branches}

-- branches, and then all refs
abbrev pub candidates : List Tip → List Tip
candidates tips = filter (λ tip. is_branch tip.name.now) tips ++ tips

-- a ref's name, or the carrier
abbrev pub name_or_carrier : Option Tip → Bytes
name_or_carrier None = carrier
name_or_carrier (Some tip) = tip.name.now

abbrev pub name_at_rank : List Tip → Option ℕ → Bytes
name_at_rank tips None = carrier
name_at_rank tips (Some rank) = name_or_carrier (slice_get tips rank)

-- the ref that the ranks give to the commit with a number
abbrev pub branch_at : {A : Type 0} → Branches A → ℕ → Bytes
branch_at branches number = name_at_rank branches.candidates.items (slice_get branches.ranks.items number)

-- whether each commit has a ref by its rank
abbrev pub all_reached : {A : Type 0} → Branches A → Bool
all_reached branches = list_all (λ rank. nat_lt rank (length branches.candidates.items)) branches.ranks.items

-- for each commit that is sent the ref that it goes out on, and whether refs reach all of them
pub record FindsBranches {A : Type 0} (refs : List Tip) (sent : List Name) (repository : Records) (branches : Branches A) : Type 0 where
  pub found : (number : ℕ) (commit : Name) → slice_get sent number ≡ Some commit
      → branch_at branches number ≡ commit_ref (targets repository refs) (commit_at repository commit)
  pub reached : all_reached branches ≡ list_all (λ commit. is_reached (targets repository refs) (commit_at repository commit)) sent
