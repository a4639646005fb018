-- What is left of items behind so many commands.
use Rattle.std.specs.Prelude.{◌≡◌, ℕ, zero, suc, ◌-◌, ◌<◌, ◌≤◌, Bool, true, false, if◌then◌else◌, List, [], ◌∷◌, ◌++◌, length, drop, Option, Some, None, Result, Ok, Err}
use Rattle.std.specs.List.{list_all, list_any}
use Rattle.gx_model.specs.Faults.{Given, ◌>>=◌}
use Rattle.gx_model.specs.Streams.Items.{Item, Line, Data, Stream}
use Rattle.gx_model.specs.declared.faults.Fault.TheVariants as model
use Rattle.gx_model.specs.declared.features.Features.{Features}
use Rattle.gx_model.specs.Streams.Commands.{Command, Commands}
use Rattle.gx_model.specs.Streams.Grammar.{asks_done, commands_of, commands_within, is_done, is_option, stops}
use Rattle.gx_model.specs.Streams.Lines.{Read}
use Rattle.gx_stream.specs.Reading.{AreOfText}
use Rattle.gx_command.specs.CommandFaults.{fault_of}
use Rattle.gx_command.specs.Heads.{first}
use Rattle.gx_command.specs.declared.fault.CommandFault.{CommandFault}
use Rattle.gx_command.specs.declared.fault.CommandFault.TheVariants as faults
use Rattle.gx_command.specs.declared.behind.BehindFault.{BehindFault}
use Rattle.gx_command.specs.declared.behind.BehindFault.TheVariants.{OutOfMemory, Command as AtCommand}
use Rattle.gx_command.specs.declared.reader.State.{State}
use Rattle.gx_command.specs.declared.reader.State.TheVariants.{Open}

-- items without the empty lines before them
abbrev pub past_empty : List Item → List Item
past_empty [] = []
past_empty (Data b ∷ more) = Data b ∷ more
past_empty (Line [] ∷ more) = past_empty more
past_empty (Line (b ∷ bs) ∷ more) = Line (b ∷ bs) ∷ more

abbrev pub from_next : Stream → Stream
from_next s = record { items = past_empty s.items; end = s.end }

-- a command, or the end where none of those before asked for `done`
abbrev pub or_missing_done : List Command → Option Command × Stream → Read (Option Command)
or_missing_done before (None, t) = if list_any asks_done before then Err model.MissingDone else Ok (None, t)
or_missing_done before (Some c, t) = Ok (Some c, t)

-- the command that comes next behind others, past empty lines; none at the end
abbrev pub next_behind : List Command → Stream → Read (Option Command)
next_behind before s = first (list_all is_option before) s >>= or_missing_done before

-- what follows the command that came, if one did
abbrev pub or_none : Option Command → (Command → Given (Option Stream)) → Given (Option Stream)
or_none None next = Ok None
or_none (Some c) next = next c

-- What is left of items behind n commands and the empty lines after them, where those commands came before. None where
-- fewer come, as after `done`, and otherwise the fault of one of them.
unfoldable pub left_behind : ℕ → List Command → Stream → Given (Option Stream)
left_behind zero before s = Ok (Some (from_next s))
left_behind (suc n) before s = if list_any is_done before then Ok None else (next_behind before s >>= λ x. or_none x.0 (λ c. left_behind n (before ++ c ∷ []) x.1))

-- the commands of items, behind others: none behind `done`
abbrev pub commands_behind : List Command → Stream → Commands
commands_behind before s = if list_any is_done before then stops None else commands_within (length s.items) before s.items s.end

-- some commands, and then these
abbrev pub then_come : List Command → Commands → Commands
then_come front cs = record { list = front ++ cs.list; fault = cs.fault }

-- the commands of the items are n, and then those of what is left behind them
abbrev pub AreBehind : ℕ → Stream → Stream → Type 0
AreBehind n s left = (front : List Command) × (length front ≡ n) × (commands_of s ≡ then_come front (commands_behind front left))

-- the last of the items, so many, with the same end
abbrev pub last_of : Stream → ℕ → Stream
last_of s n = record { items = drop (length s.items - n) s.items; end = s.end }

-- One of the first n commands, counted from 1, meets this fault, and those before it none.
pub record FailsAt (n command : ℕ) (f : CommandFault) (s : Stream) : Type 0 where
  pub from : 0 < command
  pub among : command ≤ n
  pub before : (left : Stream) × (left_behind (command - 1) [] s ≡ Ok (Some left))
  pub fault : left_behind command [] s ≡ Err (fault_of f)

-- The items left behind n commands are the last of all, so many as are answered.
abbrev pub TellsOf : ℕ → Stream → Result (Option ℕ) BehindFault → Type 0
TellsOf n s (Ok None) = left_behind n [] s ≡ Ok None
TellsOf n s (Ok (Some m)) = (m ≤ length s.items) × (left_behind n [] s ≡ Ok (Some (last_of s m)))
TellsOf n s (Err OutOfMemory) = Unit {0}
TellsOf n s (Err (AtCommand command f)) = FailsAt n command f s

-- the answer is about all items of the source, where it tells its bytes, and otherwise about those of some text
abbrev pub TellsBehind : ℕ → Option Stream → Result (Option ℕ) BehindFault → Type 0
TellsBehind n None answer = (s : Stream) × AreOfText s × TellsOf n s answer
TellsBehind n (Some s) answer = TellsOf n s answer

-- ---- the steps

-- where the items to come are told
abbrev pub TellsLeft : ℕ → Option Stream → Result (Option ℕ) BehindFault → Type 0
TellsLeft n None answer = Unit {0}
TellsLeft n (Some s) answer = TellsOf n s answer

-- a fault is one of some items that may come, unless memory ran out
abbrev pub ExplainsBehind : ℕ → (Stream → Type 0) → BehindFault → Type 0
ExplainsBehind n old OutOfMemory = Unit {0}
ExplainsBehind n old (AtCommand command f) = (s : Stream) × old s × FailsAt n command f s

-- the answer is about some items that may come
abbrev pub ExplainsLeft : ℕ → (Stream → Type 0) → Result (Option ℕ) BehindFault → Type 0
ExplainsLeft n old (Ok m) = (s : Stream) × old s × TellsOf n s (Ok m)
ExplainsLeft n old (Err f) = ExplainsBehind n old f

-- a reader that has read no command yet, where these features are asked for
abbrev pub at_start : Features → State
at_start f = Open (record { are_all = true; needs_done = f.done })

-- n commands were read, or there are fewer
abbrev pub Passes : ℕ → Option Stream → Option Stream → Result Bool BehindFault → Type 0
Passes n None new answer = Unit {0}
Passes n (Some s) new (Ok true) = (t : Stream) × (new ≡ Some t) × (left_behind n [] s ≡ Ok (Some (from_next t)))
Passes n (Some s) new (Ok false) = left_behind n [] s ≡ Ok None
Passes n (Some s) new (Err OutOfMemory) = Unit {0}
Passes n (Some s) new (Err (AtCommand command f)) = FailsAt n command f s

-- Whatever may come behind, there are items that may have come before, of which n commands were read. Where there are fewer, some
-- may have come.
abbrev pub ExplainsPasses : ℕ → (Stream → Type 0) → (Stream → Type 0) → Result Bool BehindFault → Type 0
ExplainsPasses n old new (Ok true) = (t : Stream) → new t → (s : Stream) × old s × Passes n (Some s) (Some t) (Ok true)
ExplainsPasses n old new (Ok false) = (s : Stream) × old s × Passes n (Some s) None (Ok false)
ExplainsPasses n old new (Err f) = ExplainsBehind n old f

-- the items past the empty lines
abbrev pub CountsLeft : Option Stream → Result ℕ BehindFault → Type 0
CountsLeft s (Err f) = f ≡ OutOfMemory
CountsLeft None (Ok n) = Unit {0}
CountsLeft (Some s) (Ok n) = length (past_empty s.items) ≡ n

-- the items that were counted may have come
abbrev pub ExplainsCount : (Stream → Type 0) → Result ℕ BehindFault → Type 0
ExplainsCount old (Ok n) = (s : Stream) × old s × CountsLeft (Some s) (Ok n)
ExplainsCount old (Err f) = Unit {0}

-- an empty line
abbrev pub is_empty_line : Item → Bool
is_empty_line (Line []) = true
is_empty_line (Line (b ∷ bs)) = false
is_empty_line (Data b) = false

-- want of memory is no command's
abbrev pub fault_at : ℕ → CommandFault → BehindFault
fault_at command faults.OutOfMemory = OutOfMemory
fault_at command faults.ReadFailed = AtCommand command faults.ReadFailed
fault_at command faults.TruncatedData = AtCommand command faults.TruncatedData
fault_at command faults.BadNumber = AtCommand command faults.BadNumber
fault_at command faults.UnknownCommand = AtCommand command faults.UnknownCommand
fault_at command faults.BadLine = AtCommand command faults.BadLine
fault_at command faults.BadPath = AtCommand command faults.BadPath
fault_at command faults.PathTooLong = AtCommand command faults.PathTooLong
fault_at command faults.BadMode = AtCommand command faults.BadMode
fault_at command faults.BadIdent = AtCommand command faults.BadIdent
fault_at command faults.BadRefName = AtCommand command faults.BadRefName
fault_at command faults.Unsupported = AtCommand command faults.Unsupported
fault_at command faults.LateOption = AtCommand command faults.LateOption
fault_at command faults.MissingDone = AtCommand command faults.MissingDone
