-- What the calls of an import do, from each state of the replay that the repository and the tables stand for.
-- Source: git-fast-import(1), "Commands".
use Rattle.std.specs.Prelude.{◌≡◌, ◌||◌, ℕ, List, [], ◌∷◌, map, Bool, ◌≢◌, Option, Some, None, Result, Ok, Err, IfOk, ⊤}
use Rattle.std.specs.Map.{lookup}
use Rattle.std.specs.Option.{option_map}
use Rattle.std.specs.declared.vec.Vec.{Vec}
use Rattle.gx_model.specs.declared.objects.Kind.{Kind}
use Rattle.gx_model.specs.declared.objects.Kind.TheVariants as kinds
use Rattle.gx_model.specs.declared.objects.Mode.{Mode}
use Rattle.gx_model.specs.Texts.{Bytes, same_bytes}
use Rattle.gx_model.specs.Faults.{◌>>=◌}
use Rattle.gx_model.specs.Histories.Files.{FileMap}
use Rattle.gx_model.specs.Histories.Values.{Commit, Value, commit, commit_value, commits_of, tag_value}
use Rattle.gx_model.specs.Records.{name_of, named_map}
use Rattle.gx_model.specs.Histories.{Record, Records, record_for}
use Rattle.gx_model.specs.Records.Growth.{put, record_named}
use Rattle.gx_model.specs.Records.HistoryOf.{history_of, target_in, value_of_name}
use Rattle.gx_model.specs.Revisions.Denotation as denoted
use Rattle.gx_model.specs.Revisions.Denotation.{value_denoted}
use Rattle.gx_model.specs.Objects.NameMaps.{AreFiles}
use Rattle.gx_model.specs.declared.features.Feature.{Feature}
use Rattle.gx_model.specs.Streams.Commands as model
use Rattle.gx_model.specs.Streams.Commands.{Asks, Command, CommitParts, DataRef}
use Rattle.gx_model.specs.Revisions.{revision_of}
use Rattle.gx_model.specs.Laws.RepositoryLaws.{values_of}
use Rattle.gx_model.specs.Replay as replay
use Rattle.gx_model.specs.Replay.{State, added, all_changed, all_committed, changed, content, first_parent, marked, on_branch, own_commit, starting_files, step, step_reset, text_made, with_first_parent}
use Rattle.gx_command.specs.Views.{commit_parts, shown_change, shown_commit_ish, shown_data, tag_parts}
use Rattle.gx_command.specs.declared.commands.Blob.{Blob}
use Rattle.gx_command.specs.declared.commands.Change.{Change}
use Rattle.gx_command.specs.declared.commands.Commit.{Commit as CommitCommand}
use Rattle.gx_command.specs.declared.commands.CommitIsh.{CommitIsh}
use Rattle.gx_command.specs.declared.commands.DataRef.{DataRef as GivenData}
use Rattle.gx_command.specs.declared.commands.Reset.{Reset}
use Rattle.gx_command.specs.declared.commands.Tag.{Tag as TagCommand}
use Rattle.gx_object.specs.declared.name.Name.{Name}
use Rattle.gx_tree.specs.Named.{NamedTree, IsAtHome}
use Rattle.gx_repo.specs.Repositories.{Repository}
use Rattle.gx_import.specs.Additions.{Clash, added_alone, blob_added, blobs_added, commit_added, content_added, tag_made, values_added}
use Rattle.gx_import.specs.Answers.{AddsAs, GivesAs}
use Rattle.gx_import.specs.Objects.{IsBlobOf, IsCommitOf, IsOf, IsTreeOf}
use Rattle.gx_import.specs.Rows.{AreAll, AreBoth}
use Rattle.gx_import.specs.Standing.{AreTipsAtHome, Follows, HasFilesOf, IsContentName, Stands}
use Rattle.gx_import.specs.Steps.{bytes_held, optional_commit, value_named}
use Rattle.gx_model.specs.declared.faults.Fault.{Fault}
use Rattle.gx_model.specs.declared.faults.Fault.TheVariants.{OutOfMemory}
use Rattle.gx_import.specs.declared.object.Object.{Object}
use Rattle.gx_import.specs.declared.tables.Tables.{Tables}

-- the commit that a command makes with these files and parents
abbrev pub commit_with : CommitParts → FileMap Bytes → List Commit → Commit
commit_with parts files parents = commit files (commits_of parents) (text_made parts)

-- where a call is accepted, the files at hand stay at home
abbrev pub KeepsTipsAtHome : {A X : Type 0} → Tables A → Tables A → Result X Fault → Type 0
KeepsTipsAtHome was now answer =
    (name : Kind → Bytes → Bytes) (records : List Record) → AreTipsAtHome name records was → IfOk answer (λ _. AreTipsAtHome name records now)

module _ {N : Type 0} (names : N → Kind → Bytes → Bytes) where
  -- the object that a text shows as a revision
  abbrev pub ShowsRevision : Repository N → Bytes → Result Object Fault → Type 0
  ShowsRevision repository text answer =
      GivesAs (IsOf (names repository.0) (values_of repository.1)) answer (revision_of text >>= λ r. value_denoted (names repository.0) (history_of repository.1) r)

  -- the commit of an object, or why it is none
  abbrev pub ShowsCommit : Repository N → Object → Result Name Fault → Type 0
  ShowsCommit repository object answer =
      (value : Value) → IsOf (names repository.0) (values_of repository.1) value object → GivesAs (IsCommitOf (names repository.0) (values_of repository.1)) answer (denoted.commit_in value)

  -- the blob of this name, or why it is none
  abbrev pub GivesBlob : Repository N → Name → Result Name Fault → Type 0
  GivesBlob repository called answer =
      GivesAs (IsBlobOf (names repository.0) (values_of repository.1) called) answer (bytes_held repository.1 called.bytes)

  -- the content of a file that is held, by its name
  abbrev pub NamesContent : Repository N → Mode → DataRef → Result Name Fault → Type 0
  NamesContent repository mode given answer =
      (s : State) → history_of repository.1 ≡ s.history → GivesAs (λ made called. IsContentName (names repository.0) s made mode called) answer (content (names repository.0) s mode given)

  -- a name that may be there is that of a commit
  abbrev pub IsCommitIfAny : Repository N → Option Name → Type 0
  IsCommitIfAny repository called = (made : Option Commit) × AreBoth (IsCommitOf (names repository.0) (values_of repository.1)) made called

  -- whether what a ref holds is an ancestor of the commit that is to stand there
  abbrev pub TellsForward : {E : Type 0} → Repository N → Option Name → Option Name → Result Bool E → Type 0
  TellsForward repository object called answer =
      (made : Option Commit) → AreBoth (IsCommitOf (names repository.0) (values_of repository.1)) made called
      → IfOk answer (λ is_forward. is_forward ≡ replay.is_forward (option_map (λ held. target_in (value_of_name repository.1.records held.bytes)) object) made)

  -- whether the commit may stand there: it is forward so, or `force` was asked for
  abbrev pub TellsMovable : {E : Type 0} → Repository N → Bool → Option Name → Option Name → Result Bool E → Type 0
  TellsMovable repository is_forced object called answer =
      (made : Option Commit) → AreBoth (IsCommitOf (names repository.0) (values_of repository.1)) made called
      → IfOk answer (λ is_movable. is_movable ≡ (is_forced || replay.is_forward (option_map (λ held. target_in (value_of_name repository.1.records held.bytes)) object) made))

module _ {N : Type 0} (names : N → Kind → Bytes → Bytes) {A : Type 0} where
  -- in each state that the repository and the tables stand for
  abbrev pub InEach : Repository N → Tables A → (State → Type 0) → Type 0
  InEach repository tables Holds = (s : State) → Stands (names repository.0) repository.1 tables s → Holds s

  -- ---- what is looked up

  -- the object that a commit-ish names
  abbrev pub NamesCommitIsh : Repository N → Tables A → CommitIsh A → Result Object Fault → Type 0
  NamesCommitIsh repository tables named answer =
      InEach repository tables (λ s. GivesAs (IsOf (names repository.0) s.history.values) answer (value_named (names repository.0) s (shown_commit_ish named)))

  -- the commit that it names for a branch
  abbrev pub NamesCommit : Repository N → Tables A → Bytes → CommitIsh A → Result Name Fault → Type 0
  NamesCommit repository tables branch named answer =
      InEach repository tables (λ s. GivesAs (IsCommitOf (names repository.0) s.history.values) answer (replay.committed_for (names repository.0) branch s (shown_commit_ish named)))

  -- the commit that a reset names, where it names one
  abbrev pub NamesTarget : Repository N → Tables A → Reset A → Result (Option Name) Fault → Type 0
  NamesTarget repository tables reset answer =
      InEach repository tables (λ s.
      GivesAs (AreBoth (IsCommitOf (names repository.0) s.history.values)) answer
      (optional_commit (names repository.0) s reset.branch.bytes.items (option_map shown_commit_ish reset.from)))

  -- the commit that a tag names
  abbrev pub NamesTagged : Repository N → Tables A → CommitIsh A → Result Name Fault → Type 0
  NamesTagged repository tables named answer =
      InEach repository tables (λ s.
      GivesAs (IsCommitOf (names repository.0) s.history.values) answer (replay.committed (names repository.0) replay.commit_alone s (shown_commit_ish named)))

  -- a branch's own commit
  abbrev pub IsOwnCommit : Repository N → Tables A → Bytes → Option Name → Type 0
  IsOwnCommit repository tables branch answer =
      InEach repository tables (λ s. AreBoth (IsCommitOf (names repository.0) s.history.values) (own_commit (lookup (same_bytes branch) s.branches)) answer)

  -- the first parent of the commit that a command makes
  abbrev pub NamesFirstParent : Repository N → Tables A → CommitCommand A → Result (Option Name) Fault → Type 0
  NamesFirstParent repository tables command answer =
      InEach repository tables (λ s.
      GivesAs (AreBoth (IsCommitOf (names repository.0) s.history.values)) answer (first_parent (names repository.0) s (commit_parts command)))

  -- this first parent, if there is one, and those that the command merges
  abbrev pub NamesParents : Repository N → Tables A → CommitCommand A → Option Name → Result (Vec Name A) Fault → Type 0
  NamesParents repository tables command first answer =
      (s : State) (made : Option Commit) → Stands (names repository.0) repository.1 tables s → AreBoth (IsCommitOf (names repository.0) s.history.values) made first
      → GivesAs (λ commits called. AreAll (IsCommitOf (names repository.0) s.history.values) (with_first_parent made commits) called.items) answer
      (all_committed (names repository.0) command.branch.bytes.items s (map shown_commit_ish command.merges.items))

  -- a name that may stand for a commit is that of one in some state
  abbrev pub IsSomeCommit : Repository N → Tables A → Option Name → Type 0
  IsSomeCommit repository tables called =
      (s : State) × (made : Option Commit) × Stands (names repository.0) repository.1 tables s × AreBoth (IsCommitOf (names repository.0) s.history.values) made called

  -- the parents of the commit that a command makes: the first, if there is one, and all
  abbrev pub AreParentsOf : Repository N → Tables A → CommitCommand A → Option Name → List Name → Type 0
  AreParentsOf repository tables command first called =
      InEach repository tables (λ s.
      (made : Option Commit) × (others : List Commit) × (first_parent (names repository.0) s (commit_parts command) ≡ Ok made)
      × (all_committed (names repository.0) command.branch.bytes.items s (map shown_commit_ish command.merges.items) ≡ Ok others)
      × AreBoth (IsCommitOf (names repository.0) s.history.values) made first
      × AreAll (IsCommitOf (names repository.0) s.history.values) (with_first_parent made others) called)

  -- the files that a commit with this first parent begins with
  abbrev pub GivesStartingFiles : Repository N → Tables A → Option Name → Result NamedTree Fault → Type 0
  GivesStartingFiles repository tables first answer =
      (s : State) (made : Option Commit) → Stands (names repository.0) repository.1 tables s → AreBoth (IsCommitOf (names repository.0) s.history.values) made first
      → IfOk answer (λ files. files.files ≡ named_map (names repository.0) (starting_files made))

  -- ---- what is added

  -- Want of memory hides no blob's clash with another object, nor a blob that is held and gets no mark.
  abbrev pub HidesNoBlob : {X : Type 0} → Repository N → Blob A → Result X Fault → Type 0
  HidesNoBlob repository blob (Err OutOfMemory) =
      (put repository.1.records (record_for (names repository.0) kinds.Blob blob.bytes.items) ≢ None)
      × (blob.mark ≡ None → record_named repository.1.records (names repository.0 kinds.Blob blob.bytes.items) ≡ None)
  HidesNoBlob repository blob answer = ⊤

  -- a commit with these files and parents, and its trees
  abbrev pub AddsWithTrees : Repository N → Repository N → NamedTree → List Name → CommitCommand A → Result Name Fault → Type 0
  AddsWithTrees old new tree parents command answer =
      (tables : Tables A) (s : State) (files : FileMap Bytes) (made : List Commit) → Stands (names old.0) old.1 tables s
      → AreFiles (names old.0) s.history.values files tree.files → AreAll (IsCommitOf (names old.0) s.history.values) made parents
      → AddsAs (Clash (names old.0) (values_of old.1) (commit_added files (commit_with (commit_parts command) files made)))
      (λ t called. Follows (names old.0) new.1 tables s t × (called.bytes ≡ name_of (names old.0) (commit_value (commit_with (commit_parts command) files made))))
      answer (Ok (added (commit_value (commit_with (commit_parts command) files made)) s))

  -- a commit of this tree and these parents, without its trees
  abbrev pub AddsCommitAlone : Repository N → Repository N → Name → List Name → CommitCommand A → Result Name Fault → Type 0
  AddsCommitAlone old new tree parents command answer =
      (tables : Tables A) (s : State) (files : FileMap Bytes) (made : List Commit) → Stands (names old.0) old.1 tables s
      → IsTreeOf (names old.0) s.history.values files tree → AreAll (IsCommitOf (names old.0) s.history.values) made parents
      → AddsAs (Clash (names old.0) (values_of old.1) (commit_value (commit_with (commit_parts command) files made) ∷ []))
      (λ t called. Follows (names old.0) new.1 tables s t × (called.bytes ≡ name_of (names old.0) (commit_value (commit_with (commit_parts command) files made))))
      answer (Ok (added_alone (commit_value (commit_with (commit_parts command) files made)) s))

  -- a tag of this commit
  abbrev pub AddsTagOf : Repository N → Repository N → Name → TagCommand A → Result Name Fault → Type 0
  AddsTagOf old new object command answer =
      (tables : Tables A) (s : State) (target : Commit) → Stands (names old.0) old.1 tables s → IsCommitOf (names old.0) s.history.values target object
      → AddsAs (Clash (names old.0) (values_of old.1) (tag_value (tag_made target (tag_parts command)) ∷ []))
      (λ t called. Follows (names old.0) new.1 tables s t × (called.bytes ≡ name_of (names old.0) (tag_value (tag_made target (tag_parts command)))))
      answer (Ok (added (tag_value (tag_made target (tag_parts command))) s))

  -- the content of a file
  abbrev pub AddsContent : Repository N → Repository N → Tables A → Mode → GivenData A → Result Name Fault → Type 0
  AddsContent old new tables mode given answer =
      InEach old tables (λ s.
      AddsAs (Clash (names old.0) (values_of old.1) (content_added (shown_data given)))
      (λ made called. Follows (names old.0) new.1 tables s made.0 × IsContentName (names old.0) made.0 made mode called)
      answer (content (names old.0) s mode (shown_data given)))

  -- the blob of one change, whose files come from those that were
  abbrev pub MakesChange : {X : Type 0} → Repository N → Repository N → Tables A → NamedTree → NamedTree → model.Change → Result X Fault → Type 0
  MakesChange old new tables was now change answer =
      (s : State) (files : FileMap Bytes) → Stands (names old.0) old.1 tables s → AreFiles (names old.0) s.history.values files was.files
      → AddsAs (Clash (names old.0) (values_of old.1) (blob_added change))
      (λ r _. Follows (names old.0) new.1 tables s r.0 × AreFiles (names old.0) r.0.history.values r.1 now.files)
      answer (changed (names old.0) s files change)

  -- those of all changes
  abbrev pub EditsAll : {X : Type 0} → Repository N → Repository N → Tables A → NamedTree → NamedTree → Vec (Change A) A → Result X Fault → Type 0
  EditsAll old new tables was now changes answer =
      (s : State) (files : FileMap Bytes) → Stands (names old.0) old.1 tables s → AreFiles (names old.0) s.history.values files was.files
      → AddsAs (Clash (names old.0) (values_of old.1) (blobs_added (names old.0) s files (map shown_change changes.items)))
      (λ r _. Follows (names old.0) new.1 tables s r.0 × AreFiles (names old.0) r.0.history.values r.1 now.files)
      answer (all_changed (names old.0) s files (map shown_change changes.items))

  -- those of all changes of the files that a commit with this first parent begins with
  abbrev pub EditsFrom : Repository N → Repository N → Tables A → Tables A → Option Name → Vec (Change A) A → Result NamedTree Fault → Type 0
  EditsFrom old new was now first changes answer =
      (s : State) (made : Option Commit) → Stands (names old.0) old.1 was s → AreBoth (IsCommitOf (names old.0) s.history.values) made first
      → AddsAs (Clash (names old.0) (values_of old.1) (blobs_added (names old.0) s (starting_files made) (map shown_change changes.items)))
      (λ r files. Follows (names old.0) new.1 now s r.0 × AreFiles (names old.0) r.0.history.values r.1 files.files)
      answer (all_changed (names old.0) s (starting_files made) (map shown_change changes.items))

  -- ---- what a command does

  -- the step of a blob, a commit or a tag, which adds its values
  abbrev pub Makes : {X : Type 0} → Repository N → Repository N → Tables A → Tables A → Command → Result X Fault → Type 0
  Makes old new was now command answer =
      InEach old was (λ s.
      AddsAs (Clash (names old.0) (values_of old.1) (values_added (names old.0) s command)) (λ t _. Follows (names old.0) new.1 now s t) answer
      (step (names old.0) s command))

  -- a branch that is set
  abbrev pub Resets : {X : Type 0} → Repository N → Tables A → Tables A → Reset A → Result X Fault → Type 0
  Resets repository was now reset answer =
      InEach repository was (λ s.
      GivesAs (λ t _. Follows (names repository.0) repository.1 now s t) answer
      (step_reset (names repository.0) s reset.branch.bytes.items (option_map shown_commit_ish reset.from)))

-- a mark and a branch that are set at a commit with these files
abbrev pub SetsCommit : {A : Type 0} → Tables A → Tables A → Option ℕ → Bytes → Name → NamedTree → Type 0
SetsCommit was now mark branch called files =
    (name : Kind → Bytes → Bytes) (repository : Records) (s : State) (made : Commit) → Stands name repository was s
    → IsCommitOf name s.history.values made called → HasFilesOf name made files
    → Follows name repository now s (on_branch branch (Some made) (marked mark (commit_value made) s))

-- the files at hand stay at home, where those that come to them are
abbrev pub KeepsTipsAtHomeWith : {A : Type 0} → Tables A → Tables A → NamedTree → Type 0
KeepsTipsAtHomeWith was now files =
    (name : Kind → Bytes → Bytes) (records : List Record) → IsAtHome name records files → AreTipsAtHome name records was → AreTipsAtHome name records now

-- what a feature asks for
abbrev pub AsksFor : {A : Type 0} → Tables A → Tables A → Feature → Type 0
AsksFor was now feature =
    (name : Kind → Bytes → Bytes) (repository : Records) (s : State) → Stands name repository was s
    → (t : State) × (step name s (Asks feature) ≡ Ok t) × Follows name repository now s t
