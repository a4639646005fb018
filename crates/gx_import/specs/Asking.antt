-- What a refused command asks for in vain: a mark, the text of a commit-ish, or the name of an object.
-- Source: git-fast-import(1), "from", "merge", "filemodify", "tag" and "reset".
use Rattle.std.specs.Prelude.{◌≡◌, ◌⊎◌, ℕ, Bool, true, false, List, ◌∷◌, ◌++◌, Option, Some, None, Result, Ok, Err, MatchOption}
use Rattle.gx_model.specs.declared.objects.Kind.{Kind}
use Rattle.gx_model.specs.declared.objects.Mode.{Mode}
use Rattle.gx_model.specs.declared.faults.Fault.{Fault}
use Rattle.gx_model.specs.declared.faults.Fault.TheVariants.{Ambiguous, BadRevision, EmptyBranch, FromItself, NoParent, OutOfMemory, UnknownMark, UnknownObject, UnknownRef, WrongKind}
use Rattle.gx_model.specs.Texts.{Bytes}
use Rattle.gx_model.specs.Histories.Files.{FileMap}
use Rattle.gx_model.specs.Histories.Values.{Commit}
use Rattle.gx_model.specs.Streams.Commands as command
use Rattle.gx_model.specs.Streams.Commands.{Change, Command, CommitIsh, CommitParts, DataRef, Inline, Mark, Marked, Modify, Named, Object}
use Rattle.gx_model.specs.Replay.{State, all_changed, all_committed, commit_alone, committed, committed_for, content, first_parent, starting_files}
use Rattle.gx_import.specs.declared.explanation.Asked.{Asked}
use Rattle.gx_import.specs.declared.explanation.Asked.TheVariants as asked

-- what a command refers to: a mark, the text of a branch or a revision, or the digits of an object's name
pub data Reference : Type 0 where
  mark : ℕ → Reference
  text : Bytes → Reference
  digits : Bytes → Reference

-- what is told, as that
abbrev pub shown_asked : {A : Type 0} → Asked A → Reference
shown_asked (asked.Mark n) = mark n
shown_asked (asked.Text t) = text t.items
shown_asked (asked.Object d) = digits d.digits

-- what a commit-ish refers to
abbrev pub of_commit_ish : CommitIsh → Reference
of_commit_ish (Marked n) = mark n
of_commit_ish (Named x) = text x

-- what a file's content refers to, unless its bytes stand in the stream
abbrev pub of_data : DataRef → Option Reference
of_data (Mark n) = Some (mark n)
of_data (Object x) = Some (digits x)
of_data (Inline x) = None

-- A fault that only a reference has: what it asks for isn't there, isn't the only one, or isn't of the kind that is wanted.
abbrev pub is_of_reference : Fault → Bool
is_of_reference UnknownMark = true
is_of_reference UnknownRef = true
is_of_reference UnknownObject = true
is_of_reference Ambiguous = true
is_of_reference WrongKind = true
is_of_reference NoParent = true
is_of_reference EmptyBranch = true
is_of_reference FromItself = true
is_of_reference BadRevision = true
is_of_reference _ = false

-- this is refused with a fault, or memory ran out
abbrev pub IsRefusedWith : {X : Type 0} → Fault → Result X Fault → Type 0
IsRefusedWith fault given = (fault ≡ OutOfMemory) ⊎ (given ≡ Err fault)

module _ (name : Kind → Bytes → Bytes) where
  -- the `from` of a branch's command asks for this, and is refused with this fault
  abbrev pub AsksByFrom : Bytes → State → Option CommitIsh → Fault → Reference → Type 0
  AsksByFrom branch s None fault reference = ⊥
  AsksByFrom branch s (Some from) fault reference = (reference ≡ of_commit_ish from) × IsRefusedWith fault (committed_for name branch s from)

  -- of these merges, those before one give commits, and that one asks for this, and is refused with this fault
  pub record AsksByMerge (branch : Bytes) (s : State) (merges : List CommitIsh) (fault : Fault) (reference : Reference) : Type 0 where
    pub before : List CommitIsh
    pub merged : CommitIsh
    pub after : List CommitIsh
    pub all : merges ≡ before ++ merged ∷ after
    pub commits : List Commit
    pub given : all_committed name branch s before ≡ Ok commits
    pub asks : reference ≡ of_commit_ish merged
    pub refused : IsRefusedWith fault (committed_for name branch s merged)

  -- a modify asks for this content, and is refused with this fault
  abbrev pub AsksByContent : State → Mode → DataRef → Fault → Reference → Type 0
  AsksByContent s mode given fault reference = (of_data given ≡ Some reference) × IsRefusedWith fault (content name s mode given)

  -- of all changes, only a modify asks for anything
  abbrev pub AsksByOne : State → Change → Fault → Reference → Type 0
  AsksByOne s (Modify mode given path) fault reference = AsksByContent s mode given fault reference
  AsksByOne s _ fault reference = ⊥

  -- of these changes, those before one are made, and that one asks for this, and is refused with this fault
  pub record AsksByChange (s : State) (files : FileMap Bytes) (changes : List Change) (fault : Fault) (reference : Reference) : Type 0 where
    pub before : List Change
    pub change : Change
    pub after : List Change
    pub all : changes ≡ before ++ change ∷ after
    pub made : State × FileMap Bytes
    pub steps : all_changed name s files before ≡ Ok made
    pub asks : AsksByOne made.0 change fault reference

  -- the first parent of a commit is known, and one that is merged is refused
  pub record AsksByMergeOf (s : State) (c : CommitParts) (fault : Fault) (reference : Reference) : Type 0 where
    pub first : Option Commit
    pub parent : first_parent name s c ≡ Ok first
    pub asks : AsksByMerge c.ref s c.merges fault reference

  -- all parents of a commit are known, and a change is refused
  pub record AsksByChangeOf (s : State) (c : CommitParts) (fault : Fault) (reference : Reference) : Type 0 where
    pub first : Option Commit
    pub others : List Commit
    pub parent : first_parent name s c ≡ Ok first
    pub merges : all_committed name c.ref s c.merges ≡ Ok others
    pub asks : AsksByChange s (starting_files first) c.changes fault reference

  -- a commit asks for this by its `from`, or a merge, or a change
  abbrev pub AsksByCommit : State → CommitParts → Fault → Reference → Type 0
  AsksByCommit s c fault reference =
      AsksByFrom c.ref s c.parent fault reference ⊎ AsksByMergeOf s c fault reference ⊎ AsksByChangeOf s c fault reference

  -- A command asks for this in vain: everything that comes before it is given, and with this fault it is not, unless memory ran out.
  abbrev pub AsksInVain : State → Command → Fault → Reference → Type 0
  AsksInVain s (command.Commit c) = AsksByCommit s c
  AsksInVain s (command.Tag t) = λ fault reference. (reference ≡ of_commit_ish t.target) × IsRefusedWith fault (committed name commit_alone s t.target)
  AsksInVain s (command.Reset r) = AsksByFrom r.ref s r.parent
  AsksInVain s (command.Blob b) = λ fault reference. ⊥
  AsksInVain s (command.Progress x) = λ fault reference. ⊥
  AsksInVain s (command.Asks f) = λ fault reference. ⊥
  AsksInVain s command.Checkpoint = λ fault reference. ⊥
  AsksInVain s (command.OptionLine t) = λ fault reference. ⊥
  AsksInVain s command.Done = λ fault reference. ⊥

-- What is told of a refusal: what was asked for in vain; or nothing, where the fault isn't that of a reference.
abbrev pub TellsVain : {A : Type 0} → (Reference → Type 0) → Fault → Option (Asked A) → Type 0
TellsVain Asks fault told = MatchOption told (is_of_reference fault ≡ false) (λ a. Asks (shown_asked a))

-- and of an answer: nothing, where it is accepted
abbrev pub TellsVainIn : {X A : Type 0} → (Fault → Reference → Type 0) → Result X Fault → Option (Asked A) → Type 0
TellsVainIn Asks (Ok _) told = told ≡ None
TellsVainIn Asks (Err fault) told = TellsVain (Asks fault) fault told
