-- What is told of changes and commands, from each state of the replay that the repository and the tables stand for.
-- Source: git-fast-import(1), "Commands".
use Rattle.std.specs.Prelude.{◌≡◌, List, map, Option, None, Result, Ok, Err, MatchOption}
use Rattle.std.specs.declared.vec.Vec.{Vec}
use Rattle.gx_model.specs.declared.objects.Kind.{Kind}
use Rattle.gx_model.specs.declared.faults.Fault.{Fault}
use Rattle.gx_model.specs.declared.faults.Fault.TheVariants.{OutOfMemory}
use Rattle.gx_model.specs.Texts.{Bytes}
use Rattle.gx_model.specs.Histories.Files.{FileMap}
use Rattle.gx_model.specs.Histories.Values.{Commit}
use Rattle.gx_model.specs.Objects.NameMaps.{AreFiles}
use Rattle.gx_model.specs.Streams.Commands as model
use Rattle.gx_model.specs.Replay.{State, starting_files}
use Rattle.gx_command.specs.Views.{shown_change}
use Rattle.gx_command.specs.declared.commands.Change.{Change}
use Rattle.gx_object.specs.declared.name.Name.{Name}
use Rattle.gx_repo.specs.Repositories.{Repository}
use Rattle.gx_tree.specs.Named.{NamedTree}
use Rattle.gx_import.specs.Asking.{AsksByChange, TellsVainIn}
use Rattle.gx_import.specs.Explaining.{IsRefusedAt, TellsNoChange}
use Rattle.gx_import.specs.Objects.{IsCommitOf}
use Rattle.gx_import.specs.Rows.{AreBoth}
use Rattle.gx_import.specs.Standing.{Stands}
use Rattle.gx_import.specs.declared.explanation.Explanation.{Explanation}
use Rattle.gx_import.specs.declared.tables.Tables.{Tables}

-- what is told of changes: the one that is refused, or nothing, where memory ran out before them
abbrev pub TellsChanges : {X A : Type 0} → (Kind → Bytes → Bytes) → State → FileMap Bytes → List model.Change → Result X Fault → Explanation A → Type 0
TellsChanges name s files changes (Ok _) told = TellsNoChange told
TellsChanges name s files changes (Err fault) told = MatchOption told.change ((fault ≡ OutOfMemory) × (told.path ≡ None)) (λ number. IsRefusedAt name s files changes fault number told.path)

module _ {N : Type 0} (names : N → Kind → Bytes → Bytes) {X A : Type 0} where
  -- of all changes of these files
  abbrev pub TellsEdits : Repository N → Tables A → NamedTree → Vec (Change A) A → Result X Fault → Explanation A → Type 0
  TellsEdits old tables was changes answer told =
      (s : State) (files : FileMap Bytes) → Stands (names old.0) old.1 tables s → AreFiles (names old.0) s.history.values files was.files
      → TellsChanges (names old.0) s files (map shown_change changes.items) answer told

  -- of all changes of the files that a commit with this first parent begins with
  abbrev pub TellsEditsFrom : Repository N → Tables A → Option Name → Vec (Change A) A → Result X Fault → Explanation A → Type 0
  TellsEditsFrom old was first changes answer told =
      (s : State) (made : Option Commit) → Stands (names old.0) old.1 was s → AreBoth (IsCommitOf (names old.0) s.history.values) made first
      → TellsChanges (names old.0) s (starting_files made) (map shown_change changes.items) answer told

  -- of what all changes of these files ask for
  abbrev pub AskedByEdits : Repository N → Tables A → NamedTree → Vec (Change A) A → Result X Fault → Explanation A → Type 0
  AskedByEdits old tables was changes answer told =
      (s : State) (files : FileMap Bytes) → Stands (names old.0) old.1 tables s → AreFiles (names old.0) s.history.values files was.files
      → TellsVainIn (AsksByChange (names old.0) s files (map shown_change changes.items)) answer told.asked

  -- of what all changes of the files ask for that a commit with this first parent begins with
  abbrev pub AskedByEditsFrom : Repository N → Tables A → Option Name → Vec (Change A) A → Result X Fault → Explanation A → Type 0
  AskedByEditsFrom old was first changes answer told =
      (s : State) (made : Option Commit) → Stands (names old.0) old.1 was s → AreBoth (IsCommitOf (names old.0) s.history.values) made first
      → TellsVainIn (AsksByChange (names old.0) s (starting_files made) (map shown_change changes.items)) answer told.asked
