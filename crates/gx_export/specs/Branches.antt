-- The ref that each commit goes out on, by the ranks of refs.
use Rattle.std.specs.Prelude.{◌≡◌, ◌<◌, ◌≤◌, ◌+◌, ℕ, Bool, false, nat_le, List, ◌++◌, map, length, take, Option, Some, None, slice_index_or}
use Rattle.std.specs.Borrow.{Bor}
use Rattle.std.specs.List.{filter, filter_map, slice_get, AllByRecursion}
use Rattle.gx_model.specs.Changes.{commit_ref, is_branch}
use Rattle.gx_model.specs.Export.{carrier, is_reached}
use Rattle.gx_model.specs.Histories.Marks.{IsAt, IsMarked, Marks, marks_of}
use Rattle.gx_model.specs.Histories.Values.{Commit, Value, commit_of}
use Rattle.gx_model.specs.Histories.{Records, Target}
use Rattle.gx_model.specs.Laws.RepositoryLaws.{values_of}
use Rattle.gx_model.specs.Records.HistoryOf.{target_in, value_of_name}
use Rattle.gx_model.specs.Records.Sound.{IsTarget}
use Rattle.gx_model.specs.Replay.{peeled_at}
use Rattle.gx_model.specs.Texts.{Bytes}
use Rattle.gx_object.specs.declared.name.Name.{Name}
use Rattle.gx_repo.specs.Refs.{shown_lent_ref}
use Rattle.gx_rev.specs.Tips.{AreTips}
use Rattle.gx_export.specs.declared.branches.Branches.{Branches}

-- the commits among values that pass, in their order
abbrev pub picked : (Commit → Bool) → List Value → List Commit
picked test values = filter test (filter_map commit_of values)

-- branches, and then all refs
abbrev pub candidates : {X : Type 0} → List (Bytes × X) → List (Bytes × X)
candidates refs = filter (λ ref. is_branch ref.0) refs ++ refs

-- refs with what their objects stand for
abbrev pub targets : Records → List (Bytes × Bytes) → List (Bytes × Target)
targets repository refs = map (λ ref. (ref.0, target_in (value_of_name repository.records ref.1))) refs

abbrev pub shown_tips : List (Bor Bytes × Name) → List (Bytes × Bytes)
shown_tips tips = map shown_lent_ref tips

-- each is a ref of the repository
abbrev pub AreTargets : Records → List (Bor Bytes × Name) → Type 0
AreTargets repository tips = AllByRecursion (λ ref. IsTarget repository.records ref.0 ref.1) (shown_tips tips)

-- ---- ranks

-- the places of the ranks that are at most so high
abbrev pub at_most : ℕ → List ℕ → List Bool
at_most k ranks = map (λ rank. nat_le rank k) ranks

-- the ranks of these commits are lowered to one, and those of others stay
pub record IsLowered (repository : Records) (Among : Commit → Type 0) (rank : ℕ) (old new : List ℕ) : Type 0 where
  pub long : length new ≡ length old
  pub marks : (k : ℕ) → rank ≤ k → Marks repository Among (at_most k old) (at_most k new)
  pub same : (k : ℕ) → k < rank → at_most k new ≡ at_most k old

-- up to each rank, what stands there reaches what the refs up to this one reach
pub record HaveTips (repository : Records) (refs : List (Bytes × Target)) (ranks : List ℕ) : Type 0 where
  pub long : length ranks ≡ length (values_of repository)
  pub tips : (k : ℕ) → k < length refs → AreTips repository (is_reached (take (k + 1) refs)) (at_most k ranks)

-- from a place on, each commit's rank is the number of the first ref that reaches it
pub record AreRanked (repository : Records) (refs : List (Bytes × Target)) (first : ℕ) (ranks : List ℕ) : Type 0 where
  pub long : length ranks ≡ length (values_of repository)
  pub marks : (k : ℕ) → k < length refs → (place : ℕ) (made : Commit) → first ≤ place → IsAt repository place made
      → slice_index_or (at_most k ranks) place false ≡ is_reached (take (k + 1) refs) made

-- ---- the calls

-- the tips have ranks
abbrev pub HaveTipsOf : Records → List (Bor Bytes × Name) → List ℕ → Type 0
HaveTipsOf repository tips ranks = HaveTips repository (targets repository (shown_tips tips)) ranks

abbrev pub AreRankedBy : Records → List (Bor Bytes × Name) → ℕ → List ℕ → Type 0
AreRankedBy repository tips first ranks = AreRanked repository (targets repository (shown_tips tips)) first ranks

-- a ref's name, or the carrier
abbrev pub name_or_carrier : Option (Bor Bytes × Name) → Bytes
name_or_carrier None = carrier
name_or_carrier (Some tip) = tip.0.now

-- the ref at a rank
abbrev pub name_at_rank : List (Bor Bytes × Name) → Option ℕ → Bytes
name_at_rank tips None = carrier
name_at_rank tips (Some rank) = name_or_carrier (slice_get tips rank)

-- the ref that the ranks give at a place
abbrev pub branch_at : {A : Type 0} → Branches A → ℕ → Bytes
branch_at branches place = name_at_rank branches.tips.items (slice_get branches.ranks.items place)

-- whether the refs reach the commit at a place, by the ranks
abbrev pub is_below : ℕ → Option ℕ → Bool
is_below count None = false
is_below count (Some rank) = nat_le (rank + 1) count

abbrev pub is_ranked : {A : Type 0} → Branches A → ℕ → Bool
is_ranked branches place = is_below (length branches.tips.items) (slice_get branches.ranks.items place)

-- the refs that are set, with what their objects stand for
abbrev pub refs_of : {A : Type 0} → Records → Branches A → List (Bytes × Target)
refs_of repository branches = targets repository (shown_tips branches.refs.items)

-- At the place of each commit that is sent the ref that it goes out on is found, and whether a ref reaches it.
pub record FindsBranches {A : Type 0} (repository : Records) (sent : List Bool) (branches : Branches A) : Type 0 where
  pub targets : AreTargets repository branches.refs.items
  pub found : (place : ℕ) (made : Commit) → IsMarked sent place → IsAt repository place made → branch_at branches place ≡ commit_ref (refs_of repository branches) made
  pub reached : (place : ℕ) (made : Commit) → IsMarked sent place → IsAt repository place made → is_ranked branches place ≡ is_reached (refs_of repository branches) made

-- ---- the refs that are set

-- the commit that a ref's object peels to
abbrev pub commit_of_ref : Records → Bytes → Commit
commit_of_ref repository object = peeled_at (target_in (value_of_name repository.records object))

-- these are the refs whose commits are marked
abbrev pub AreSet : Records → List Bool → List (Bor Bytes × Name) → Type 0
AreSet repository set refs = (test : Commit → Bool)
    → set ≡ marks_of test (values_of repository)
    → shown_tips refs ≡ filter (λ ref. test (commit_of_ref repository ref.1)) repository.refs
