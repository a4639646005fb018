-- What the explanation of a refusal tells: which change of a commit is refused, what was asked for in vain, or which ref would
-- lose a commit. Source: git-fast-import(1), "from", "merge", "filemodify" to "filedeleteall", and "force".
use Rattle.std.specs.Prelude.{◌≡◌, ◌⊎◌, ℕ, ◌+◌, Bool, List, [], ◌∷◌, ◌++◌, length, Option, Some, None, Result, Ok, Err, MatchOption}
use Rattle.gx_model.specs.declared.objects.Kind.{Kind}
use Rattle.gx_model.specs.declared.faults.Fault.{Fault}
use Rattle.gx_model.specs.declared.faults.Fault.TheVariants.{NameHeld, OutOfMemory}
use Rattle.gx_model.specs.declared.features.Features.{Features}
use Rattle.gx_model.specs.Texts.{Bytes}
use Rattle.gx_model.specs.Texts.Paths.{Path}
use Rattle.gx_model.specs.Histories.Files.{FileMap}
use Rattle.gx_model.specs.Histories.Values.{Commit}
use Rattle.gx_model.specs.Histories.{Records}
use Rattle.gx_model.specs.Records.HistoryOf.{history_of}
use Rattle.gx_model.specs.Streams.Commands as command
use Rattle.gx_model.specs.Streams.Commands.{Change, Clear, Command, CommitParts, Commands, Copy, Modify, Remove, Rename}
use Rattle.gx_model.specs.Replay.{State, all_changed, all_committed, begun, changed, first_parent, starting_files}
use Rattle.gx_model.specs.Laws.ExportLaws.{steps}
use Rattle.gx_text.specs.Devices.{Coming}
use Rattle.gx_command.specs.Reading.{AreOfItems, Seen, commands_asked_from}
use Rattle.gx_repo.specs.Repositories.{Repository}
use Rattle.gx_import.specs.Additions.{Clash, blob_added}
use Rattle.gx_import.specs.Asking.{AsksInVain, TellsVain}
use Rattle.gx_import.specs.Losing.{TellsLoss, TellsLossBy}
use Rattle.gx_import.specs.Reading.{IsAskedOf}
use Rattle.gx_import.specs.declared.explanation.Explanation.{Explanation}
use Rattle.gx_import.specs.declared.fault.ImportFault.{ImportFault}

-- the path of a change: of a copy or a rename that of the source
abbrev pub path_of : Change → Option Path
path_of (Modify mode content path) = Some path
path_of (Remove path) = Some path
path_of (Copy source destination) = Some source
path_of (Rename source destination) = Some source
path_of Clear = None

-- no change is told, neither by its number nor by its path
abbrev pub TellsNoChange : {A : Type 0} → Explanation A → Type 0
TellsNoChange told = (told.change ≡ None) × (told.path ≡ None)

-- neither a change nor a reference nor a ref is told
pub record TellsNothing {A : Type 0} (told : Explanation A) : Type 0 where
  pub change : told.change ≡ None
  pub path : told.path ≡ None
  pub asked : told.asked ≡ None
  pub loss : told.loss ≡ None

-- a refusal tells this path, and no other change and no ref
abbrev pub TellsPath : {X E A : Type 0} → Option Path → Result X E → Explanation A → Explanation A → Type 0
TellsPath path (Ok _) old new = new ≡ old
TellsPath path (Err _) old new = (new.change ≡ old.change) × (new.path ≡ path) × (new.loss ≡ old.loss)

module _ (name : Kind → Bytes → Bytes) where
  -- a change is refused with this fault: memory ran out, its blob has the name of another value, or the model refuses it
  abbrev pub IsRefused : State → FileMap Bytes → Change → Fault → Type 0
  IsRefused s files change fault =
      (fault ≡ OutOfMemory) ⊎ ((fault ≡ NameHeld) × Clash name s.history.values (blob_added change)) ⊎ (changed name s files change ≡ Err fault)

  -- of these changes, those before the one with this number are made without a fault, and that one, at this path, is refused
  pub record IsRefusedAt (s : State) (files : FileMap Bytes) (changes : List Change) (fault : Fault) (number : ℕ) (path : Option Path) : Type 0 where
    pub before : List Change
    pub change : Change
    pub after : List Change
    pub all : changes ≡ before ++ change ∷ after
    pub count : number ≡ length before + 1
    pub at : path ≡ path_of change
    pub made : State × FileMap Bytes
    pub steps : all_changed name s files before ≡ Ok made
    pub refused : IsRefused made.0 made.1 change fault

  -- the same of a commit's changes, whose parents are known
  pub record IsRefusedIn (s : State) (c : CommitParts) (fault : Fault) (number : ℕ) (path : Option Path) : Type 0 where
    pub first : Option Commit
    pub others : List Commit
    pub parent : first_parent name s c ≡ Ok first
    pub merges : all_committed name c.ref s c.merges ≡ Ok others
    pub refused : IsRefusedAt s (starting_files first) c.changes fault number path

  -- of a command, the change with this number, at this path, is refused
  abbrev pub HasRefused : State → Command → Fault → ℕ → Option Path → Type 0
  HasRefused s (command.Commit c) = IsRefusedIn s c
  HasRefused s (command.Blob b) = λ fault number path. ⊥
  HasRefused s (command.Tag t) = λ fault number path. ⊥
  HasRefused s (command.Reset r) = λ fault number path. ⊥
  HasRefused s (command.Progress x) = λ fault number path. ⊥
  HasRefused s (command.Asks f) = λ fault number path. ⊥
  HasRefused s command.Checkpoint = λ fault number path. ⊥
  HasRefused s (command.OptionLine t) = λ fault number path. ⊥
  HasRefused s command.Done = λ fault number path. ⊥

  -- no change of the command is refused with this fault, unless memory ran out, or a value has the name of another one
  abbrev pub HasNoneRefused : State → Command → Fault → Type 0
  HasNoneRefused s c fault = (fault ≡ OutOfMemory) ⊎ (fault ≡ NameHeld) ⊎ ((number : ℕ) (path : Option Path) → HasRefused s c fault number path → ⊥)

  -- What is told of a command's changes: nothing, where it is applied; the change that is refused; or nothing, where none is.
  abbrev pub Tells : {X A : Type 0} → State → Command → Result X Fault → Explanation A → Type 0
  Tells s c (Ok _) told = TellsNoChange told
  Tells s c (Err fault) told = MatchOption told.change (HasNoneRefused s c fault × (told.path ≡ None)) (λ number. HasRefused s c fault number told.path)

  -- of a command all is told, the change that is refused, what it asks for in vain, and the ref that would lose a commit; or
  -- nothing, where it is applied
  abbrev pub TellsAll : {X A : Type 0} → State → Command → Result X Fault → Explanation A → Type 0
  TellsAll s c (Ok _) told = TellsNothing told
  TellsAll s c (Err fault) told =
      Tells {X = Unit {0}} s c (Err fault) told × TellsLossBy name s c fault told.loss × TellsVain (AsksInVain name s c fault) fault told.asked

  -- the same of the next of these commands; behind the last neither a change nor a reference is told
  abbrev pub TellsNext : {A : Type 0} → State → List Command → Fault → Explanation A → Type 0
  TellsNext s [] fault told = TellsNoChange told × TellsLoss name s fault told.loss × (told.asked ≡ None)
  TellsNext s (c ∷ cs) fault told = TellsAll {X = Unit {0}} s c (Err fault) told

  -- the commands before the one with the fault's number are replayed without a fault, and of that one this is told
  pub record Explains {A : Type 0} (asks : Features) (old : Records) (commands : List Command) (fault : ImportFault) (told : Explanation A) : Type 0 where
    pub before : List Command
    pub after : List Command
    pub all : commands ≡ before ++ after
    pub number : fault.command ≡ length before + 1
    pub state : State
    pub reached : steps name (begun asks (history_of old)) before ≡ Ok state
    pub tells : TellsNext state after fault.kind told

  -- What is told of the commands that the source gives. Where it tells nothing, there are items, and it is told of their commands.
  abbrev pub ExplainsFault : {A : Type 0} → Features → Records → Option Coming → ImportFault → Explanation A → Type 0
  ExplainsFault asks old None fault told = (commands : Commands) × AreOfItems asks commands × Explains asks old commands.list fault told
  ExplainsFault asks old (Some coming) fault told = Explains asks old (commands_asked_from asks coming).list fault told

  -- an import that is accepted tells nothing
  abbrev pub ExplainsAnswer : {X A : Type 0} → Features → Records → Option Coming → Result X ImportFault → Explanation A → Type 0
  ExplainsAnswer asks old coming (Ok _) told = TellsNothing told
  ExplainsAnswer asks old coming (Err fault) told = ExplainsFault asks old coming fault told

module _ {N : Type 0} (names : N → Kind → Bytes → Bytes) {X A : Type 0} where
  -- what an import tells, where these features are asked for
  abbrev pub ExplainsAsked : Features → Repository N → Option Coming → Result X ImportFault → Explanation A → Type 0
  ExplainsAsked asks old coming answer told = ExplainsAnswer (names old.0) asks old.1 coming answer told

  -- The same over each source whose commands a reader has before it gives any, and with each features that ask for these and
  -- let branches lose commits just where the tables do at the start.
  abbrev pub ExplainsRead : Repository N → Bool → Seen → Result X ImportFault → Explanation A → Type 0
  ExplainsRead old is_forced reader answer told =
      (asks : Features) (coming : Option Coming) → asks.force ≡ is_forced → IsAskedOf asks coming reader → ExplainsAsked asks old coming answer told
