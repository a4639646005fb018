-- What a refused replay keeps: what the commands before its last checkpoint give, or what it began with.
-- Source: git-fast-import(1), "checkpoint".
use Rattle.std.specs.Prelude.{◌≡◌, ℕ, ◌-◌, Bool, true, false, if◌then◌else◌, List, [], ◌∷◌, length, take, Option, None, Some}
use Rattle.std.specs.List.{filter}
use Rattle.gx_model.specs.declared.faults.Fault.{Fault}
use Rattle.gx_model.specs.declared.objects.Kind.{Kind}
use Rattle.gx_model.specs.Texts.{Bytes}
use Rattle.gx_model.specs.Histories.{History}
use Rattle.gx_model.specs.Streams.Commands.{Checkpoint, Command}
use Rattle.gx_model.specs.Replay.{Kept, Report, finished, refused, replayed, replayed_commands, start}

-- whether a command is a checkpoint
abbrev pub is_checkpoint : Command → Bool
is_checkpoint Checkpoint = true
is_checkpoint _ = false

-- how many of these commands are checkpoints
abbrev pub checkpoints_in : List Command → ℕ
checkpoints_in commands = length (filter is_checkpoint commands)

-- a command before what the others tell; alone it may be the last checkpoint
abbrev pub before_others : Command → Option (List Command) → Option (List Command)
before_others c (Some front) = Some (c ∷ front)
before_others c None = if is_checkpoint c then Some [] else None

-- the commands before the last checkpoint, where there is one
abbrev pub before_checkpoint : List Command → Option (List Command)
before_checkpoint [] = None
before_checkpoint (c ∷ cs) = before_others c (before_checkpoint cs)

module _ (name : Kind → Bytes → Bytes) where
  -- these commands, replayed from a history to their end, meet no fault and give the other
  abbrev pub GiveAlone : History → List Command → History → Type 0
  GiveAlone h commands k =
      (text : Bytes) × (report : Report)
      × (replayed_commands name h (record { list = commands; fault = None }) ≡ finished k text report)

  -- what is kept after these commands: what those before the last checkpoint give, or the history of the start
  pub record KeepsCheckpoint (h : History) (commands : List Command) (kept : Kept) : Type 0 where
    pub checkpoints : kept.checkpoints ≡ checkpoints_in commands
    pub start : before_checkpoint commands ≡ None → kept.history ≡ h
    pub last : (front : List Command) → before_checkpoint commands ≡ Some front → GiveAlone h front kept.history

-- a replay that is refused at a command keeps what is kept after those before it
abbrev pub RefusalsKeepCheckpoints : Type 0
RefusalsKeepCheckpoints =
    (name : Kind → Bytes → Bytes) (h : History) (commands : List Command) (end : Option Fault)
    (number : ℕ) (fault : Fault) (text : Bytes) (kept : Kept)
    → replayed name 0 (start h) commands end ≡ refused number fault text kept → KeepsCheckpoint name h (take (number - 1) commands) kept
