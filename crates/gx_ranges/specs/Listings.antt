-- A walk over commits that goes on as it is asked: which it still has to list.
use Rattle.std.specs.Prelude.{◌≡◌, ◌<◌, ℕ, nat_eq, Bool, false, List, [], ◌∷◌, map, Option, Some, None, Result, Ok, Err, IfSome, ⊤}
use Rattle.std.specs.Borrow.{Bor}
use Rattle.gx_model.specs.declared.objects.Kind.{Kind}
use Rattle.gx_model.specs.declared.objects.Kind.TheVariants as kinds
use Rattle.gx_model.specs.Histories.{Records}
use Rattle.gx_model.specs.Histories.Values.{Commit}
use Rattle.gx_model.specs.Objects.{CommitParts}
use Rattle.gx_model.specs.Records.HistoryOf.{history_of}
use Rattle.gx_model.specs.Revisions.{RangeWord}
use Rattle.gx_model.specs.Texts.{Bytes}
use Rattle.gx_object.specs.declared.name.Name.{Name}
use Rattle.gx_questions.specs.Objects.{IsCommitAt}
use Rattle.gx_rev.specs.Objects.{IsHeldAs, commit_at}
use Rattle.gx_print.specs.Logs.{AreCommits, commits_logged, limited}
use Rattle.gx_ranges.specs.Answers.{RefusesWord}
use Rattle.gx_ranges.specs.Fronts.{AreTips, behind_last, lead_to}
use Rattle.gx_ranges.specs.Walks.{passing_from}
use Rattle.gx_ranges.specs.declared.fault.RangeFault.{RangeFault}
use Rattle.gx_ranges.specs.declared.walking.CommitWalk.{CommitWalk}

-- a commit that is listed: its name, its body and its parts
abbrev pub Listed : Type 0
Listed = Name × (Bor Bytes × CommitParts)

-- the commits that a walk has before it are held, and stand at their places
pub record AreTipsOf {A : Type 0} (stands : ℕ → ℕ) (repository : Records) (walk : CommitWalk A) : Type 0 where
  pub wanted : AreTips stands walk.wanted.entries repository
  pub unwanted : AreTips stands walk.unwanted.entries repository

-- these are the commits that a walk still has to list
pub record StillLists {A : Type 0} (stands : ℕ → ℕ) (repository : Records) (walk : CommitWalk A) (commits : List Commit) : Type 0 where
  pub tips : AreTipsOf stands repository walk
  pub lists : commits ≡ limited walk.left (passing_from repository (lead_to repository walk.wanted.entries) (lead_to repository walk.unwanted.entries) 0)

-- a walk begins with the commits that are logged, so many at most; or the first word is refused
abbrev pub BeginsList : {A : Type 0} → (Kind → Bytes → Bytes) → (ℕ → ℕ) → Option Records → List RangeWord → Bool → Option ℕ → Result (CommitWalk A) RangeFault → Type 0
BeginsList name stands told words refs most (Ok walk) =
    IfSome told (λ r. (commits : List Commit) × (commits_logged name (history_of r) refs words ≡ Ok commits) × StillLists stands r walk (limited most commits))
BeginsList name stands told words refs most (Err refusal) = RefusesWord told (λ r. commits_logged name (history_of r) refs words) refusal.word refusal.kind

-- what is listed first, and what is still listed then
pub record IsListedFirst {A : Type 0} (name : Kind → Bytes → Bytes) (stands : ℕ → ℕ) (repository : Records) (walk : CommitWalk A) (commits : List Commit) (listed : Listed) : Type 0 where
  pub rest : List Commit
  pub first : commits ≡ commit_at repository listed.0 ∷ rest
  pub held : IsHeldAs kinds.Commit repository listed.0
  pub is : IsCommitAt name listed.0 repository listed.1
  pub still : StillLists stands repository walk rest

-- the first of the commits that a walk still lists is given; where none is, there is none
abbrev pub IsFirstListed : {A : Type 0} → (Kind → Bytes → Bytes) → (ℕ → ℕ) → Records → CommitWalk A → List Commit → Option Listed → Type 0
IsFirstListed name stands repository walk commits (Some listed) = IsListedFirst name stands repository walk commits listed
IsFirstListed name stands repository walk commits None = commits ≡ []

abbrev pub ListsNext : {A : Type 0} → (Kind → Bytes → Bytes) → (ℕ → ℕ) → CommitWalk A → CommitWalk A → Records → Option Listed → Type 0
ListsNext name stands old new repository found = (commits : List Commit) → StillLists stands repository old commits → IsFirstListed name stands repository new commits found

-- whether no more may come
abbrev pub is_done : Option ℕ → Bool
is_done None = false
is_done (Some left) = nat_eq left 0

-- how many places a walk may still visit
abbrev pub places_left : {A : Type 0} → CommitWalk A → ℕ
places_left walk = behind_last walk.wanted.entries

-- where a commit is given fewer places are left
abbrev pub GoesOn : {A : Type 0} → CommitWalk A → CommitWalk A → Option Listed → Type 0
GoesOn old new None = ⊤
GoesOn old new (Some listed) = places_left new < places_left old

-- these are the names of all commits that a walk still lists
abbrev pub AreAllNames : {A : Type 0} → (ℕ → ℕ) → CommitWalk A → Records → List Name → Type 0
AreAllNames stands old repository names =
    (commits : List Commit) → StillLists stands repository old commits → (commits ≡ map (commit_at repository) names) × AreCommits repository names

-- these are the names of the commits that the one front reaches and the other doesn't, the newest put first
pub record AreReached (wanted unwanted : List (ℕ × Name)) (repository : Records) (names : List Name) : Type 0 where
  pub commits : map (commit_at repository) names ≡ passing_from repository (lead_to repository wanted) (lead_to repository unwanted) 0
  pub held : AreCommits repository names

-- a commit's body has this name
abbrev pub HasNameOf : (Kind → Bytes → Bytes) → Name → Bor Bytes × CommitParts → Type 0
HasNameOf name called commit = name kinds.Commit commit.0.now ≡ called.bytes
