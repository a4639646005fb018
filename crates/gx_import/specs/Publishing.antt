-- What publishing the branches and tags of an import does, or why it is refused.
-- Source: git-fast-import(1), "force", and gitglossary(7), "fast-forward".
use Rattle.std.specs.Prelude.{◌≡◌, ◌⊎◌, ◌+◌, ℕ, Bool, true, false, not, length, Result, Ok, Err, IfOk}
use Rattle.std.specs.List.{filter}
use Rattle.gx_model.specs.declared.objects.Kind.{Kind}
use Rattle.gx_model.specs.Texts.{Bytes}
use Rattle.gx_model.specs.Histories.{Records}
use Rattle.gx_model.specs.Replay.{State, checkpointed, is_fast_forward}
use Rattle.gx_repo.specs.Repositories.{Repository}
use Rattle.gx_import.specs.Standing.{Stands, is_published}
use Rattle.gx_model.specs.declared.faults.Fault.{Fault}
use Rattle.gx_model.specs.declared.faults.Fault.TheVariants.{NotFastForward, OutOfMemory}
use Rattle.gx_import.specs.declared.tables.Tables.{Tables}

-- how many refs were published, where all tags were: the branches that were with a commit, and the tags whose refs are none of these
abbrev pub published_count : {A : Type 0} → Tables A → ℕ
published_count tables =
    length (filter (λ row. row.1.was_published) tables.branches)
    + length (filter (λ row. not (is_published tables.branches row.0)) tables.tags)

-- The repository and the tables stand for the state after a checkpoint or the end, and the tables count its published refs; or a
-- branch would lose a commit, or memory ran out.
abbrev pub Publishes : {A : Type 0} → (Kind → Bytes → Bytes) → State → Records → Tables A → Result (Unit {0}) Fault → Type 0
Publishes name s new now (Ok _) =
    (is_fast_forward s ≡ true) × Stands name new now (checkpointed s) × (published_count now ≡ length (checkpointed s).published)
Publishes name s new now (Err fault) = (fault ≡ OutOfMemory) ⊎ ((fault ≡ NotFastForward) × (is_fast_forward s ≡ false))

module _ {N : Type 0} (names : N → Kind → Bytes → Bytes) {A : Type 0} where
  -- the same for each state that the repository and the tables stand for
  abbrev pub PublishesInEach : Repository N → Repository N → Tables A → Tables A → Result (Unit {0}) Fault → Type 0
  PublishesInEach old new was now answer =
      (s : State) → Stands (names old.0) old.1 was s → Publishes (names old.0) s new.1 now answer

  -- what is answered tells whether each branch is forward, or `force` was asked for
  abbrev pub TellsFastForward : {X E : Type 0} → Repository N → Tables A → (X → Bool) → Result X E → Type 0
  TellsFastForward repository tables tells answer =
      (s : State) → Stands (names repository.0) repository.1 tables s → IfOk answer (λ told. tells told ≡ is_fast_forward s)
