-- What an import holds of its checkpoints: the records and refs that a refusal leaves.
-- Source: git-fast-import(1), "checkpoint".
use Rattle.std.specs.Prelude.{◌≡◌, ◌⊎◌, ◌+◌, ◌≤◌, length, take, Result, Ok, Err}
use Rattle.std.specs.List.{AllByRecursion}
use Rattle.gx_model.specs.declared.faults.Fault.{Fault}
use Rattle.gx_model.specs.declared.objects.Kind.{Kind}
use Rattle.gx_model.specs.Texts.{Bytes}
use Rattle.gx_model.specs.Histories.{Records}
use Rattle.gx_model.specs.Records.Sound.{IsTarget}
use Rattle.gx_model.specs.Streams.Commands.{Command}
use Rattle.gx_model.specs.Replay.{State, step}
use Rattle.gx_import.specs.Imports.{Leaves}
use Rattle.gx_import.specs.Standing.{Stands}
use Rattle.gx_import.specs.declared.checkpoints.Checkpoints.{Checkpoints}
use Rattle.gx_import.specs.declared.tables.Tables.{Tables}

-- what a refusal leaves: the records of the last checkpoint, and the refs
abbrev pub left_of : Checkpoints → Records → Records
left_of checkpoints repository = record { records = take checkpoints.records repository.records; refs = repository.refs }

-- It is a repository with the old records in front, and the old one where no checkpoint was applied.
pub record IsLeft (old repository : Records) (checkpoints : Checkpoints) : Type 0 where
  pub fits : checkpoints.records ≤ length repository.records
  pub front : length old.records ≤ checkpoints.records
  pub targets : AllByRecursion (λ ref. IsTarget (take checkpoints.records repository.records) ref.0 ref.1) repository.refs
  pub none : checkpoints.count ≡ 0 → (checkpoints.records ≡ length old.records) × (repository.refs ≡ old.refs)

-- the repository and the checkpoints keep what the state keeps
abbrev pub Keeps : Records → Checkpoints → State → Type 0
Keeps repository checkpoints state = Leaves (left_of checkpoints repository) checkpoints.count state.kept

-- no checkpoint was applied
pub record AreNone (repository : Records) (checkpoints : Checkpoints) : Type 0 where
  pub records : checkpoints.records ≡ length repository.records
  pub count : checkpoints.count ≡ 0

-- one more, and what is held then
pub record IsNext (repository : Records) (was now : Checkpoints) : Type 0 where
  pub count : now.count ≡ was.count + 1
  pub records : now.records ≡ length repository.records
  pub targets : AllByRecursion (λ ref. IsTarget repository.records ref.0 ref.1) repository.refs

-- no more, and the refs stay
pub record AreStill (old new : Records) (was now : Checkpoints) : Type 0 where
  pub count : now.count ≡ was.count
  pub records : now.records ≡ was.records
  pub refs : new.refs ≡ old.refs

-- a checkpoint more, or none
abbrev pub Moves : Records → Records → Checkpoints → Checkpoints → Type 0
Moves old new was now = AreStill old new was now ⊎ IsNext new was now

module _ (name : Kind → Bytes → Bytes) where
  -- what is kept after a command is what the model keeps; where the command is refused, it is what was kept before
  abbrev pub KeepsAfter : Records → Records → Checkpoints → Checkpoints → State → Command → Result (Unit {0}) Fault → Type 0
  KeepsAfter old new was now s c (Ok _) = (t : State) → step name s c ≡ Ok t → Keeps new now t
  KeepsAfter old new was now s c (Err _) = Keeps new now s

  -- the same from each state that the repository, the tables and the checkpoints stand for
  abbrev pub KeepsFromEach : {A : Type 0} → Records → Records → Tables A → Checkpoints → Checkpoints → Command → Result (Unit {0}) Fault → Type 0
  KeepsFromEach old new tables was now c answer =
      (s : State) → Stands name old tables s → Keeps old was s → KeepsAfter old new was now s c answer
