-- A commit and its first parents, one behind the other.
use Rattle.std.specs.Prelude.{◌≡◌, ℕ, List, Some, Ok}
use Rattle.std.specs.List.{slice_get}
use Rattle.gx_model.specs.declared.objects.Kind.TheVariants as kinds
use Rattle.gx_model.specs.Histories.{Records}
use Rattle.gx_model.specs.Revisions.Denotation.{nth_ancestor}
use Rattle.gx_object.specs.declared.name.Name.{Name}
use Rattle.gx_rev.specs.Objects.{IsHeldAs, commit_at}
use Rattle.gx_rev.specs.declared.first_parents.FirstParents.{FirstParents}

-- each is held, and is as many first parents up from the first one as its place tells
abbrev pub IsFirstParentWalk : Records → List Name → Type 0
IsFirstParentWalk repository names =
    (first called : Name) (place : ℕ) → slice_get names 0 ≡ Some first → slice_get names place ≡ Some called
    → IsHeldAs kinds.Commit repository called × (nth_ancestor place (commit_at repository first) ≡ Ok (commit_at repository called))

abbrev pub AreFirstParents : {A : Type 0} → Records → FirstParents A → Type 0
AreFirstParents repository first_parents = IsFirstParentWalk repository first_parents.names.items
