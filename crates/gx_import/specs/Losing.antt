-- The ref that would lose a commit, where a checkpoint or the end is refused for it.
-- Source: git-fast-import(1), "force", and gitglossary(7), "fast-forward".
use Rattle.std.specs.Prelude.{◌≡◌, ◌≢◌, Bool, true, false, Option, Some, None, Result, Ok, Err, IfOk, MatchOption}
use Rattle.std.specs.Option.{option_map}
use Rattle.gx_model.specs.declared.objects.Kind.{Kind}
use Rattle.gx_model.specs.declared.faults.Fault.{Fault}
use Rattle.gx_model.specs.declared.faults.Fault.TheVariants.{NotFastForward}
use Rattle.gx_model.specs.Texts.{Bytes}
use Rattle.gx_model.specs.Histories.Values.{Commit, commit_value}
use Rattle.gx_model.specs.Histories.{Target}
use Rattle.gx_model.specs.Records.{name_of}
use Rattle.gx_model.specs.Records.HistoryOf.{target_in, value_of_name}
use Rattle.gx_model.specs.Records.Sound.{AnyByRecursion}
use Rattle.gx_model.specs.Laws.RepositoryLaws.{values_of}
use Rattle.gx_model.specs.Revisions.Denotation.{ref_at}
use Rattle.gx_model.specs.Streams.Commands.{Checkpoint, Command}
use Rattle.gx_model.specs.Replay.{State, is_forward, peeled_at}
use Rattle.gx_object.specs.declared.name.Name.{Name}
use Rattle.gx_repo.specs.Repositories.{Repository}
use Rattle.gx_import.specs.Objects.{IsCommitOf}
use Rattle.gx_import.specs.Rows.{AreBoth}
use Rattle.gx_import.specs.Standing.{Stands}
use Rattle.gx_import.specs.declared.explanation.RefLoss.{RefLoss}
use Rattle.gx_import.specs.declared.tables.Tables.{Tables}

module _ (name : Kind → Bytes → Bytes) {A : Type 0} where
  -- A ref that holds this would lose a commit where it moved to that one: the name of the ref and those of both commits are told.
  pub record IsLoss (ref : Bytes) (held : Option Target) (made : Option Commit) (told : RefLoss A) : Type 0 where
    pub old : Target
    pub new : Commit
    pub held_is : held ≡ Some old
    pub made_is : made ≡ Some new
    pub loses : is_forward (Some old) (Some new) ≡ false
    pub ref_name : told.name.items ≡ ref
    pub old_name : told.old.bytes ≡ name_of name (commit_value (peeled_at old))
    pub new_name : told.new.bytes ≡ name_of name (commit_value new)

  -- a branch of this state would lose a commit so, and `force` was not asked for
  pub record LosesCommit (s : State) (told : RefLoss A) : Type 0 where
    pub branch : Bytes × Option Commit
    pub stands : AnyByRecursion (λ b. b ≡ branch) s.branches
    pub unforced : s.is_forced ≡ false
    pub loss : IsLoss branch.0 (ref_at s.history branch.0) branch.1 told

  -- what is told where this state isn't published: with NotFastForward such a branch, and otherwise none
  abbrev pub TellsLoss : State → Fault → Option (RefLoss A) → Type 0
  TellsLoss s fault told = MatchOption told (fault ≢ NotFastForward) (λ loss. (fault ≡ NotFastForward) × LosesCommit s loss)

  -- the same of an answer
  abbrev pub TellsLossAt : {X : Type 0} → State → Result X Fault → Option (RefLoss A) → Type 0
  TellsLossAt s (Ok _) told = told ≡ None
  TellsLossAt s (Err fault) told = TellsLoss s fault told

  -- and of a command, which publishes what was made where it is a checkpoint
  abbrev pub TellsLossBy : State → Command → Fault → Option (RefLoss A) → Type 0
  TellsLossBy s c fault told =
      MatchOption told (c ≡ Checkpoint → fault ≢ NotFastForward) (λ loss. (c ≡ Checkpoint) × (fault ≡ NotFastForward) × LosesCommit s loss)

  -- an answer tells whether each branch is forward: one that isn't is told
  abbrev pub WhoLoses : {X E : Type 0} → State → (X → Bool) → Result X E → Option (RefLoss A) → Type 0
  WhoLoses s tells (Ok x) told = MatchOption told (tells x ≡ true) (λ loss. (tells x ≡ false) × LosesCommit s loss)
  WhoLoses s tells (Err _) told = told ≡ None

module _ {N : Type 0} (names : N → Kind → Bytes → Bytes) {A : Type 0} where
  -- in each state that the repository and the tables stand for
  abbrev pub TellsLossInEach : {X : Type 0} → Repository N → Tables A → Result X Fault → Option (RefLoss A) → Type 0
  TellsLossInEach repository tables answer told =
      (s : State) → Stands (names repository.0) repository.1 tables s → TellsLossAt (names repository.0) s answer told

  -- the same of an answer that tells whether each branch is forward
  abbrev pub TellsWhoLoses : {X E : Type 0} → Repository N → Tables A → (X → Bool) → Result X E → Option (RefLoss A) → Type 0
  TellsWhoLoses repository tables tells answer told =
      (s : State) → Stands (names repository.0) repository.1 tables s → WhoLoses (names repository.0) s tells answer told

  -- where a ref that holds this object would lose a commit, what is answered is that loss
  abbrev pub TellsLossOf : {E : Type 0} → Repository N → Bytes → Option Name → Option Name → Result (Option (RefLoss A)) E → Type 0
  TellsLossOf repository ref object called answer =
      (made : Option Commit) → AreBoth (IsCommitOf (names repository.0) (values_of repository.1)) made called
      → is_forward (option_map (λ held. target_in (value_of_name repository.1.records held.bytes)) object) made ≡ false
      → IfOk answer (λ told. MatchOption told ⊥ (IsLoss (names repository.0) ref (option_map (λ held. target_in (value_of_name repository.1.records held.bytes)) object) made))
