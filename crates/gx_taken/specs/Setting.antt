-- What has to be done to the refs of a repository, so that they are what items tell.
use Rattle.std.specs.Prelude.{◌≡◌, ℕ, List, [], None, IsTrue}
use Rattle.std.specs.List.{AllByRecursion}
use Rattle.gx_model.specs.Texts.{Bytes}
use Rattle.gx_model.specs.Texts.RefNames.{is_ref_name}
use Rattle.gx_model.specs.Histories.{Records}
use Rattle.gx_model.specs.Records.Publishing.{Change, Ref, changes_fault, with_changes}
use Rattle.gx_repo.specs.Dropping.{unknown_behind, without}
use Rattle.gx_taken.specs.Taking.{with_all_told}

-- all that is told is of refs by their names
abbrev pub HaveRefNames : List (ℕ × Ref) → Type 0
HaveRefNames told = AllByRecursion (λ it. IsTrue (is_ref_name it.1.0)) told

-- these names can be dropped, and then these changes made, and the refs are what is told
pub record IsTurned (r : Records) (told : List (ℕ × Ref)) (names : List Bytes) (changes : List Change) : Type 0 where
  pub known : unknown_behind r.refs [] names ≡ None
  pub free : changes_fault r.records changes ≡ None
  pub refs : with_changes (without names r.refs) changes ≡ with_all_told r.refs told
