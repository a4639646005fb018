-- What reading, applying and writing do on the way through a stream, and where the replay of all commands ends.
-- Source: git-fast-import(1), "Commands".
use Rattle.std.specs.Prelude.{◌≡◌, ℕ, ◌+◌, Bool, List, length, Option, Some, None, Result, Ok, Err, ⊤}
use Rattle.gx_model.specs.declared.objects.Kind.{Kind}
use Rattle.gx_model.specs.Texts.{Bytes}
use Rattle.gx_model.specs.Histories.{Records}
use Rattle.gx_model.specs.Records.HistoryOf.{history_of}
use Rattle.gx_model.specs.declared.features.Features.{Features}
use Rattle.gx_model.specs.Streams.Commands as model
use Rattle.gx_model.specs.Streams.Commands.{Commands}
use Rattle.gx_model.specs.Replay.{State, begun, ended, refused, replayed_asked}
use Rattle.gx_model.specs.Laws.ExportLaws.{steps}
use Rattle.gx_model.specs.Texts.Sinks.{FailedWithin, Taken, Took}
use Rattle.gx_text.specs.Devices.{Coming}
use Rattle.gx_command.specs.Reading.{AreOfItems, Falls, Seen, commands_asked_from}
use Rattle.gx_command.specs.declared.commands.Command.{Command}
use Rattle.gx_command.specs.declared.fault.CommandFault.{CommandFault}
use Rattle.gx_repo.specs.Repositories.{Repository}
use Rattle.gx_command.specs.CommandFaults.{fault_of as of_command}
use Rattle.gx_import.specs.Imports.{Imports, cut_off, only}
use Rattle.gx_import.specs.Keeping.{Keeps, left_of}
use Rattle.gx_import.specs.Reading.{GivesNext, IsAskedOf}
use Rattle.gx_import.specs.Standing.{Stands}
use Rattle.gx_import.specs.declared.checkpoints.Checkpoints.{Checkpoints}
use Rattle.gx_import.specs.declared.fault.ImportFault.{ImportFault}
use Rattle.gx_model.specs.declared.faults.Fault.{Fault}
use Rattle.gx_model.specs.declared.faults.Fault.TheVariants.{ReadFailed, WriteFailed}
use Rattle.gx_import.specs.declared.tables.Tables.{Tables}

-- a sink takes a text, or fails within it
abbrev pub Writes : Option Taken → Option Taken → Bytes → Result (Unit {0}) Fault → Type 0
Writes was now text (Ok _) = Took was now text
Writes was now text (Err e) = (e ≡ WriteFailed) × FailedWithin was now text

-- the reader's answer after n commands; its fault is the import's, at the next command, after so many checkpoints
abbrev pub ReadsNext : {A : Type 0} → ℕ → ℕ → Seen → Seen → Result (Option (Command A)) ImportFault → Type 0
ReadsNext n count old new (Ok c) = GivesNext old new (Ok c)
ReadsNext {A} n count old new (Err fault) =
    (f : CommandFault) × (fault ≡ record { command = n + 1; kind = of_command f; checkpoints = count }) × GivesNext {A = A} old new (Err f)

-- each command lowers the bound
abbrev pub FallsNext : {A : Type 0} → ℕ → ℕ → Result (Option (Command A)) ImportFault → Type 0
FallsNext old new (Ok c) = Falls old new (Ok c)
FallsNext old new (Err fault) = ⊤

module _ (asks : Features) (name : Kind → Bytes → Bytes) where
  -- the last state of the replay of these commands, n in number, and the sink has its progress text
  pub record IsLast (old : Records) (commands : Commands) (n : ℕ) (s : State) (was now : Option Taken) : Type 0 where
    pub outcome : replayed_asked name asks (history_of old) commands ≡ ended n s None
    pub cut : replayed_asked name asks (history_of old) (cut_off commands.list) ≡ refused (n + 1) ReadFailed s.progress s.kept
    pub reached : steps name (begun asks (history_of old)) commands.list ≡ Ok s
    pub count : length commands.list ≡ n
    pub progress : Took was now s.progress
    pub held : s.held ≡ length (history_of old).values

  -- the same of the commands that the source gives, or of those of some items where it tells nothing
  abbrev pub EndsAs : Records → Option Coming → ℕ → State → Option Taken → Option Taken → Type 0
  EndsAs old None n s was now = (commands : List model.Command) × IsLast old (only commands) n s was now × AreOfItems asks (only commands)
  EndsAs old (Some coming) n s was now = IsLast old (commands_asked_from asks coming) n s was now

-- the new repository, or after a fault what it leaves
abbrev pub left_by : {X E : Type 0} → Result X E → Checkpoints → Records → Records
left_by (Ok _) checkpoints new = new
left_by (Err _) checkpoints new = left_of checkpoints new

module _ {N W : Type 0} (names : N → Kind → Bytes → Bytes) (taken : W → Option Taken) {A : Type 0} where
  -- all commands are replayed, and the repository and the tables stand for the last state; or the import is refused, or interrupted
  abbrev pub ReplaysTo : Features → Repository N → Repository N → Tables A → Checkpoints → Option Coming → W → W → Result ℕ ImportFault → Type 0
  ReplaysTo asks old new tables checkpoints coming was now (Ok n) =
      (s : State) × Stands (names old.0) new.1 tables s × Keeps new.1 checkpoints s × EndsAs asks (names old.0) old.1 coming n s (taken was) (taken now)
  ReplaysTo asks old new tables checkpoints coming was now (Err fault) = Imports asks (names old.0) old.1 (left_of checkpoints new.1) coming (taken was) (taken now) (Err fault)

  -- The same over each source whose commands a reader has before it gives any, and with each features that ask for these and
  -- let branches lose commits just where the tables do at the start.
  abbrev pub ReplaysRead : Repository N → Repository N → Bool → Tables A → Checkpoints → Seen → W → W → Result ℕ ImportFault → Type 0
  ReplaysRead old new is_forced tables checkpoints reader was now answer =
      (asks : Features) (coming : Option Coming) → asks.force ≡ is_forced → IsAskedOf asks coming reader
      → ReplaysTo asks old new tables checkpoints coming was now answer
