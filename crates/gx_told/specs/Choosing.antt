-- Which of the commits that a walk still lists are still to be taken. Source: git-rev-list(1), "Commit Limiting".
use Rattle.std.specs.Prelude.{◌≡◌, ℕ, suc, Bool, false, nat_lt, if◌then◌else◌, List, ◌∷◌, map, length, Option, Some, None}
use Rattle.std.specs.List.{filter}
use Rattle.gx_model.specs.declared.objects.Kind.{Kind}
use Rattle.gx_model.specs.Histories.{Records}
use Rattle.gx_model.specs.Histories.Values.{Commit}
use Rattle.gx_model.specs.Objects.{CommitParts}
use Rattle.gx_model.specs.Records.{parts_of_commit}
use Rattle.gx_model.specs.Texts.{Bytes}
use Rattle.gx_object.specs.declared.name.Name.{Name}
use Rattle.gx_asks.specs.declared.question.LogOptions.{LogOptions}
use Rattle.gx_print.specs.Choices.{keeps}
use Rattle.gx_print.specs.Logs.{AreCommits, limited, skipped}
use Rattle.gx_ranges.specs.Listings.{StillLists}
use Rattle.gx_ranges.specs.declared.walking.CommitWalk.{CommitWalk}
use Rattle.gx_rev.specs.Objects.{commit_at}
use Rattle.gx_told.specs.declared.log.choices.Choice.{Choice}

-- the choice that options make
abbrev pub choice_of : LogOptions → Choice
choice_of options = record { only = options.only; skip = options.skip; left = options.max_count }

-- whether the next one is passed over
abbrev pub skips : Option ℕ → Bool
skips None = false
skips (Some left) = nat_lt 0 left

module _ (name : Kind → Bytes → Bytes) where
  -- of these commits those that are kept, behind so many of them, so many at most
  abbrev pub taken_of : Choice → List Commit → List Commit
  taken_of choice commits = limited choice.left (skipped choice.skip (filter (keeps name choice.only) commits))

  -- these commits are still to be taken of those that a walk still lists
  pub record StillTakes {A : Type 0} (stands : ℕ → ℕ) (repository : Records) (walk : CommitWalk A) (choice : Choice) (commits : List Commit) : Type 0 where
    pub listed : List Commit
    pub still : StillLists stands repository walk listed
    pub taken : commits ≡ taken_of choice listed

  -- so many commits are still to be taken
  abbrev pub AreSoMany : {A : Type 0} → (ℕ → ℕ) → CommitWalk A → Choice → Records → ℕ → Type 0
  AreSoMany stands walk choice repository count = (commits : List Commit) → StillTakes stands repository walk choice commits → count ≡ length commits

  -- these are the names of the commits that are still to be taken
  abbrev pub AreTaken : {A : Type 0} → (ℕ → ℕ) → CommitWalk A → Choice → Records → List Name → Type 0
  AreTaken stands walk choice repository names =
      (commits : List Commit) → StillTakes stands repository walk choice commits → (commits ≡ map (commit_at repository) names) × AreCommits repository names

-- a commit of these parts is taken, or passed over
abbrev pub Takes : Choice → Choice → CommitParts → Bool → Type 0
Takes old new parts taken = (name : Kind → Bytes → Bytes) (made : Commit) (others : List Commit) → parts ≡ parts_of_commit name made
    → taken_of name old (made ∷ others) ≡ (if taken then made ∷ taken_of name new others else taken_of name new others)

-- how many there are, with one that is taken or not
abbrev pub counted : ℕ → Bool → ℕ
counted count taken = if taken then suc count else count
