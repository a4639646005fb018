-- What a reader of commands is seen as, and what one call answers and leaves.
use Rattle.std.specs.Prelude.{◌≡◌, ℕ, ◌<◌, ◌≤◌, ◌⊎◌, IsTrue, IfOk, IfSome, ◌&&◌, ◌||◌, if◌then◌else◌, List, [], ◌∷◌, ◌++◌, length, Option, Some, None, Result, Ok, Err}
use Rattle.std.specs.Option.{option_map}
use Rattle.gx_model.specs.declared.features.Feature.TheVariants as features
use Rattle.gx_model.specs.declared.features.Features.{Features}
use Rattle.gx_model.specs.declared.faults.Fault.TheVariants as faults
use Rattle.gx_model.specs.Faults.{◌>>=◌}
use Rattle.gx_model.specs.Streams.Gitlinks.{BringsSayable}
use Rattle.gx_model.specs.Streams.Items.{Item, Stream, items_of}
use Rattle.gx_model.specs.Streams.Commands as model
use Rattle.gx_model.specs.Streams.Commands.{Commands, no_features}
use Rattle.gx_model.specs.Streams.Grammar.{commands_asked, commands_within, is_done, is_option, asks_done, stops, with_command}
use Rattle.gx_model.specs.Streams.Lines.{Read}
use Rattle.gx_text.specs.Devices.{Coming}
use Rattle.gx_stream.specs.Heard.{items_from}
use Rattle.gx_stream.specs.Reading as stream
use Rattle.gx_command.specs.CommandFaults.{fault_of}
use Rattle.gx_command.specs.Explaining.{ItemsMayCome}
use Rattle.gx_command.specs.Heads.{first}
use Rattle.gx_command.specs.Views.{shown_command}
use Rattle.gx_command.specs.declared.commands.Command.{Command}
use Rattle.gx_command.specs.declared.fault.CommandFault.{CommandFault}
use Rattle.gx_command.specs.declared.fault.CommandFault.TheVariants.{OutOfMemory}
use Rattle.gx_command.specs.declared.reader.Options.{Options}
use Rattle.gx_command.specs.declared.reader.State.{State}
use Rattle.gx_command.specs.declared.reader.State.TheVariants.{Open, Ended, Failed}

-- What is known of what comes, whatever the source tells: commands that stand for those that came before, the item that was
-- read ahead, and the reader of items.
pub record Known : Type 0 where
  pub before : List model.Command
  pub held : Option Item
  pub reader : stream.Seen

-- What a reader is seen as: the commands still to come with their fault, where the source tells its bytes, a bound on
-- how many may come, where it is over, how: at the end, or at a fault; and what is known without the source's bytes.
pub record Seen : Type 0 where
  pub commands : Option Commands
  pub most : ℕ
  pub over : Option (Option CommandFault)
  pub known : Known

-- the commands of some text's items, where these features are asked for as if it began with them
abbrev pub AreOfItems : Features → Commands → Type 0
AreOfItems f commands = (c : Coming) × (commands ≡ commands_asked f (items_of c.bytes c.fails))

-- the commands of all that a source gives, where these features are asked for as if it began with them
abbrev pub commands_asked_from : Features → Coming → Commands
commands_asked_from f c = commands_asked f (items_from c)

-- where none are
abbrev pub commands_from : Coming → Commands
commands_from = commands_asked_from no_features

-- Where the commands to come are known, the first is answered and the others are left. A fault other than want of memory
-- is answered only where it is the end that comes next, and it is all that is left then. So is the end.
abbrev pub Reads : {A : Type 0} → Option Commands → Option Commands → Result (Option (Command A)) CommandFault → Type 0
Reads None new (Ok None) = new ≡ Some (stops None)
Reads None new (Ok (Some c)) = Unit {0}
Reads None new (Err f) = new ≡ Some (stops (Some (fault_of f)))
Reads (Some old) new (Ok None) = (old ≡ stops None) × (new ≡ Some (stops None))
Reads (Some old) new (Ok (Some c)) = (left : Commands) × (old ≡ with_command (shown_command c) left) × (new ≡ Some left)
Reads (Some old) new (Err f) = (new ≡ Some (stops (Some (fault_of f)))) × ((f ≡ OutOfMemory) ⊎ (old ≡ stops (Some (fault_of f))))

-- Whatever commands may come behind, they may have come behind the one that is answered. The end, and a fault other than want of
-- memory, may have come.
abbrev pub ExplainsNext : {A : Type 0} → (Commands → Type 0) → (Commands → Type 0) → Result (Option (Command A)) CommandFault → Type 0
ExplainsNext old new (Ok None) = old (stops None)
ExplainsNext old new (Ok (Some c)) = (left : Commands) → new left → old (with_command (shown_command c) left)
ExplainsNext old new (Err f) = (f ≡ OutOfMemory) ⊎ old (stops (Some (fault_of f)))

-- after `done` nothing comes
abbrev pub Finishes : {A : Type 0} → Option Commands → Result (Option (Command A)) CommandFault → Type 0
Finishes new (Ok (Some c)) = IsTrue (is_done (shown_command c)) → new ≡ Some (stops None)
Finishes new (Ok None) = Unit {0}
Finishes new (Err f) = Unit {0}

-- the command that is answered, where one is, brings no null gitlink
abbrev pub ReadsSayable : {A E : Type 0} → Result (Option (Command A)) E → Type 0
ReadsSayable answer = IfOk answer (λ next. IfSome next (λ command. BringsSayable (shown_command command)))

-- each command lowers the bound
abbrev pub Falls : {A : Type 0} → ℕ → ℕ → Result (Option (Command A)) CommandFault → Type 0
Falls old new (Ok None) = new ≤ old
Falls old new (Ok (Some c)) = new < old
Falls old new (Err f) = new ≤ old

-- A reader is over after `done`, the end or a fault, and not after another command.
abbrev pub over_after : {A : Type 0} → Result (Option (Command A)) CommandFault → Option (Option CommandFault)
over_after (Ok None) = Some None
over_after (Ok (Some c)) = if is_done (shown_command c) then Some None else None
over_after (Err f) = Some (Some f)

-- what a reader answers that is over
abbrev pub last_answer : {A : Type 0} → Option CommandFault → Result (Option (Command A)) CommandFault
last_answer None = Ok None
last_answer (Some f) = Err f

-- A reader that is over gives the same answer again, and nothing changes.
abbrev pub Repeats : {A : Type 0} → Option (Option CommandFault) → Seen → Seen → Result (Option (Command A)) CommandFault → Type 0
Repeats None old new answer = Unit {0}
Repeats (Some last) old new answer = (answer ≡ last_answer last) × (new ≡ old)

-- ---- what the fields of a reader stand for

-- commands that came before, of which only this is known
abbrev pub before_of : Options → List model.Command
before_of o = (if o.needs_done then model.Asks features.Done ∷ [] else []) ++ (if o.are_all then [] else model.Checkpoint ∷ [])

-- the commands of these items, after some that came before
abbrev pub commands_after : List model.Command → Stream → Commands
commands_after before s = commands_within (length s.items) before s.items s.end

abbrev pub shown_commands : State → Option Stream → Option Commands
shown_commands (Open o) s = option_map (commands_after (before_of o)) s
shown_commands Ended s = Some (stops None)
shown_commands (Failed f) s = Some (stops (Some (fault_of f)))

abbrev pub most_of : State → ℕ → ℕ
most_of (Open o) most = most
most_of Ended most = 0
most_of (Failed f) most = 0

abbrev pub over_of : State → Option (Option CommandFault)
over_of (Open o) = None
over_of Ended = Some None
over_of (Failed f) = Some (Some f)

-- commands that stand for those that came before, where more may come
abbrev pub known_before : State → List model.Command
known_before (Open o) = before_of o
known_before Ended = []
known_before (Failed f) = []

-- a reader in this state, ahead of which these items come, and at most so many, behind the one that was read ahead
abbrev pub seen_commands : State → Option Stream → ℕ → Option Item → stream.Seen → Seen
seen_commands state items bound held reader = record {
  commands = shown_commands state items;
  most = most_of state bound;
  over = over_of state;
  known = record { before = known_before state; held = held; reader = reader };
}

-- ---- what may still come, whatever the source tells

-- the commands of some items behind what is known, or where the reader is over, none and its last answer
abbrev pub MayFollow : Option (Option CommandFault) → Known → Commands → Type 0
MayFollow None known commands = (s : Stream) × ItemsMayCome known.held known.reader s × (commands ≡ commands_after known.before s)
MayFollow (Some None) known commands = commands ≡ stops None
MayFollow (Some (Some f)) known commands = commands ≡ stops (Some (fault_of f))

-- these commands may still come
abbrev pub MayCome : Seen → Commands → Type 0
MayCome seen = MayFollow seen.over seen.known

-- the command that comes next, after some options
abbrev pub or_missing : Options → Option model.Command × Stream → Read (Option model.Command)
or_missing o (None, t) = if o.needs_done then Err faults.MissingDone else Ok (None, t)
or_missing o (Some c, t) = Ok (Some c, t)

abbrev pub next_after : Options → Stream → Read (Option model.Command)
next_after o s = first o.are_all s >>= or_missing o

abbrev pub state_after : Options → model.Command → State
state_after o c = if is_done c then Ended else Open (record { are_all = o.are_all && is_option c; needs_done = o.needs_done || asks_done c })
