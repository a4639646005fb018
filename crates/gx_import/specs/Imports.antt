-- What an import answers, and what it makes of the repository and the sink.
-- Source: git-fast-import(1).
use Rattle.std.specs.Prelude.{◌≡◌, ◌⊎◌, ℕ, ◌+◌, ◌≤◌, List, [], ◌∷◌, ◌++◌, length, codes, Option, Some, None, Result, Ok, Err}
use Rattle.gx_model.specs.declared.objects.Kind.{Kind}
use Rattle.gx_model.specs.declared.faults.Fault.TheVariants as model_fault
use Rattle.gx_model.specs.Texts.{Bytes}
use Rattle.gx_model.specs.Histories.{Records, StandsFor}
use Rattle.gx_model.specs.Records.HistoryOf.{history_of}
use Rattle.gx_model.specs.Records.Sound.{IsSound}
use Rattle.gx_model.specs.declared.features.Features.{Features}
use Rattle.gx_model.specs.Streams.Commands.{Command, Commands, Progress}
use Rattle.gx_model.specs.Replay as model
use Rattle.gx_model.specs.Replay.{Kept, Outcome, finished, begun, refused, imported_asked, replayed_asked}
use Rattle.gx_model.specs.Texts.Sinks.{FailedWithin, Taken, Took, TookFront}
use Rattle.gx_text.specs.Devices.{Coming}
use Rattle.gx_stream.specs.Heard.{heard}
use Rattle.gx_command.specs.Reading.{AreOfItems, commands_asked_from}
use Rattle.gx_repo.specs.Repositories.{Repository}
use Rattle.gx_import.specs.Additions.{ClashesAt}
use Rattle.gx_import.specs.declared.fault.ImportFault.{ImportFault}
use Rattle.gx_model.specs.declared.faults.Fault.TheVariants.{NameHeld, OutOfMemory, WriteFailed}
use Rattle.gx_import.specs.declared.report.Report.{Report}

-- the whole progress text
abbrev pub progress_of : Outcome → Bytes
progress_of (finished h text report) = text
progress_of (refused number fault text kept) = text

-- the number of the command that is refused, or what a refusal at the end has
abbrev pub last_number : Outcome → ℕ
last_number (finished h text report) = report.commands + 1
last_number (refused number fault text kept) = number

-- a report as the model has it
abbrev pub report_of : Report → model.Report
report_of report = record { commands = report.commands; objects = report.objects; refs = report.refs }

-- these commands alone, with no fault behind them
abbrev pub only : List Command → Commands
only commands = record { list = commands; fault = None }

-- these commands, and then a failed read
abbrev pub cut_off : List Command → Commands
cut_off commands = record { list = commands; fault = Some model_fault.ReadFailed }

-- the repository has the history that is kept, and there were so many checkpoints
pub record Leaves (new : Records) (checkpoints : ℕ) (kept : Kept) : Type 0 where
  pub history : history_of new ≡ kept.history
  pub count : checkpoints ≡ kept.checkpoints

-- the line of a progress, with its line feed
abbrev pub line_of : Bytes → Bytes
line_of text = codes "progress " ++ text ++ 10 ∷ []

-- a sink took the first text, and failed within the one behind it
abbrev pub FailedBehind : Option Taken → Option Taken → Bytes → Bytes → Type 0
FailedBehind was now before text = (mid : Option Taken) × Took was mid before × FailedWithin mid now text

-- the replay is accepted, and a sound repository stands for its history
abbrev pub StandsForIts : (Kind → Bytes → Bytes) → Outcome → Records → Type 0
StandsForIts name (finished h text report) new = IsSound name new × StandsFor name new h
StandsForIts name (refused number fault text kept) new = ⊥

-- where these features are asked for
module _ (asks : Features) (name : Kind → Bytes → Bytes) where
  -- what the replay of commands gives, from the history of a repository on
  abbrev pub replayed_on : Records → Commands → Outcome
  replayed_on old commands = replayed_asked name asks (history_of old) commands

  -- the command with this number is a progress, and within its line the sink failed, behind the lines of those before it
  abbrev pub IsCutAt : Records → List Command → ℕ → Option Taken → Option Taken → Type 0
  IsCutAt old commands number was now =
      (before : List Command) × (text : Bytes) × (after : List Command) × (commands ≡ before ++ Progress text ∷ after)
      × (number ≡ length before + 1) × FailedBehind was now (progress_of (replayed_on old (only before))) (line_of text)

  -- the new repository has what is kept where the stream is cut off before the command with the fault's number
  abbrev pub LeavesBefore : Records → Records → List Command → ImportFault → Type 0
  LeavesBefore old new commands fault =
      (before : List Command) × (after : List Command) × (commands ≡ before ++ after) × (fault.command ≡ length before + 1)
      × (text : Bytes) × (kept : Kept) × (replayed_on old (cut_off before) ≡ refused fault.command model_fault.ReadFailed text kept)
      × Leaves new fault.checkpoints kept

  -- In the place of what the replay gives, at that command or before it, memory ran out, the sink failed, or a value had the
  -- name of another one. What the last checkpoint before it published is left.
  abbrev pub Interrupts : Records → Records → Commands → Outcome → Option Taken → Option Taken → ImportFault → Type 0
  Interrupts old new commands outcome was now fault =
      (1 ≤ fault.command) × (fault.command ≤ last_number outcome)
      × (((fault.kind ≡ OutOfMemory) × TookFront was now (progress_of outcome))
      ⊎ (((fault.kind ≡ NameHeld) × ClashesAt name 0 (begun asks (history_of old)) commands.list fault.command × TookFront was now (progress_of outcome))
      ⊎ ((fault.kind ≡ WriteFailed) × IsCutAt old commands.list fault.command was now × FailedWithin was now (progress_of outcome))))
      × LeavesBefore old new commands.list fault

  -- an import is accepted as the replay is, refused as it is and leaves what it keeps, or interrupted
  abbrev pub Replays : Records → Records → Commands → Outcome → Option Taken → Option Taken → Result Report ImportFault → Type 0
  Replays old new commands outcome was now (Ok report) = (text : Bytes) × (outcome ≡ finished (history_of new) text (report_of report)) × Took was now text
  Replays old new commands outcome was now (Err fault) =
      ((text : Bytes) × (kept : Kept) × (outcome ≡ refused fault.command fault.kind text kept) × Took was now text
      × Leaves new fault.checkpoints kept)
      ⊎ Interrupts old new commands outcome was now fault

  -- What an import does where the source tells its bytes is what the replay of their commands gives. Where it tells nothing,
  -- there are items, and what the import does is what the replay of their commands gives.
  abbrev pub Imports : Records → Records → Option Coming → Option Taken → Option Taken → Result Report ImportFault → Type 0
  Imports old new None was now result = (commands : Commands) × AreOfItems asks commands × Replays old new commands (replayed_on old commands) was now result
  Imports old new (Some coming) was now result =
      Replays old new (commands_asked_from asks coming) (imported_asked asks name (history_of old) (heard coming).bytes (heard coming).fails) was now result

  -- the new repository stands for the history that the replay of what the source gives makes of the old one's
  abbrev pub StandsForReplay : Records → Records → Option Coming → Type 0
  StandsForReplay old new None = (commands : Commands) × AreOfItems asks commands × StandsForIts name (replayed_on old commands) new
  StandsForReplay old new (Some coming) = StandsForIts name (imported_asked asks name (history_of old) (heard coming).bytes (heard coming).fails) new

-- the new repository stands for the history of that replay
abbrev pub StandsAsked : {N : Type 0} → Features → (N → Kind → Bytes → Bytes) → Repository N → Repository N → Option Coming → Type 0
StandsAsked asks names old new = StandsForReplay asks (names old.0) old.1 new.1

module _ {N W : Type 0} (names : N → Kind → Bytes → Bytes) (taken : W → Option Taken) where
  -- what an import does to a repository and a sink, and what it answers, where these features are asked for
  abbrev pub ImportsAsked : Features → Repository N → Repository N → Option Coming → W → W → Result Report ImportFault → Type 0
  ImportsAsked asks old new coming was now = Imports asks (names old.0) old.1 new.1 coming (taken was) (taken now)
