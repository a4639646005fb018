-- What no stream can say of a commit: a gitlink of forty zeros, and a header that isn't that of an encoding. No command of a stream
-- gives one, so that an import makes no commit with one, and its export can be imported.
-- Source: git-fast-import(1), "filemodify".
use Rattle.std.specs.Prelude.{◌≡◌, ℕ, ◌+◌, ◌<◌, ◌^◌, Bool, false, not, List, [], length, Option, None, Some, ⊤}
use Rattle.std.specs.List.{AllByRecursion, filter_map, list_any, take_while}
use Rattle.gx_model.specs.declared.faults.Fault.{Fault}
use Rattle.gx_model.specs.declared.faults.Fault.TheVariants.{Unsupported}
use Rattle.gx_model.specs.declared.objects.Kind.{Kind}
use Rattle.gx_model.specs.declared.objects.Mode.TheVariants.{Gitlink}
use Rattle.gx_model.specs.Texts.{Bytes}
use Rattle.gx_model.specs.Streams.Items.{Stream, items_of}
use Rattle.gx_model.specs.Streams.Commands as command
use Rattle.gx_model.specs.Streams.Commands.{Change, Command, Inline, Mark, Modify, Object}
use Rattle.gx_model.specs.Streams.Grammar.{commands_of}
use Rattle.gx_model.specs.Streams.Lines.{is_null}
use Rattle.gx_model.specs.Histories.{History, IsHistory, IsIn, no_history}
use Rattle.gx_model.specs.Histories.Values.{IsEncodingAlone, Value, commit_of}
use Rattle.gx_model.specs.Export.{export_commands, export_text, reached_commits}
use Rattle.gx_model.specs.Replay.{Kept, Report, finished, refused, replayed, replayed_text, start}
use Rattle.gx_model.specs.Laws.ExportLaws.{AreSayable, HasNoNullGitlink, HasSayable, HaveEncodingsAlone, IsAgain, exported_report}

-- ---- commands

-- a gitlink is given by digits, and these aren't forty zeros
abbrev pub GivesNoNullGitlink : Change → Type 0
GivesNoNullGitlink (Modify Gitlink (Object digits) path) = is_null digits ≡ false
GivesNoNullGitlink (Modify Gitlink (Mark n) path) = ⊥
GivesNoNullGitlink (Modify Gitlink (Inline bytes) path) = ⊥
GivesNoNullGitlink _ = ⊤

-- no change of the command gives a gitlink of forty zeros, and it gives no header but that of an encoding
abbrev pub BringsSayable : Command → Type 0
BringsSayable (command.Commit c) = AllByRecursion GivesNoNullGitlink c.changes × IsEncodingAlone c.headers
BringsSayable _ = ⊤

-- whether a change gives a gitlink of forty zeros
abbrev pub gives_null : Change → Bool
gives_null (Modify Gitlink (Object digits) path) = is_null digits
gives_null _ = false

-- whether a change of the command gives one
abbrev pub brings_null : Command → Bool
brings_null (command.Commit c) = list_any gives_null c.changes
brings_null _ = false

-- the commands of an export before the first that brings one
abbrev pub commands_before_null : History → List Command
commands_before_null h = take_while (λ c. not (brings_null c)) (export_commands h)

-- ---- histories

-- a stream can say each commit, whether refs reach it or not
abbrev pub HoldsSayable : History → Type 0
HoldsSayable h = AreSayable (filter_map commit_of h.values)

-- ---- laws

-- where a stream can say each commit, it can say those that refs reach
abbrev pub HoldsTellsHas : Type 0
HoldsTellsHas = (h : History) → HoldsSayable h → HasSayable h

-- no stream has a command that brings such a gitlink, or another header
abbrev pub StreamsBringNone : Type 0
StreamsBringNone = (s : Stream) → AllByRecursion BringsSayable (commands_of s).list

-- and commands that bring none leave none where there was none
abbrev pub ReplaysKeepNone : Type 0
ReplaysKeepNone =
    (name : Kind → Bytes → Bytes) (h k : History) (commands : List Command)
    (end : Option Fault) (n : ℕ) (text : Bytes) (report : Report)
    → IsHistory h → HoldsSayable h → AllByRecursion BringsSayable commands
    → replayed name n (start h) commands end ≡ finished k text report → HoldsSayable k

-- nor where they are refused
abbrev pub RefusalsKeepNone : Type 0
RefusalsKeepNone =
    (name : Kind → Bytes → Bytes) (h : History) (commands : List Command)
    (end : Option Fault) (n number : ℕ) (fault : Fault) (text : Bytes) (kept : Kept)
    → IsHistory h → HoldsSayable h → AllByRecursion BringsSayable commands
    → replayed name n (start h) commands end ≡ refused number fault text kept → HoldsSayable kept.history

-- so no text brings one
abbrev pub TextsBringNone : Type 0
TextsBringNone =
    (name : Kind → Bytes → Bytes) (h k : History) (given : Bytes) (fails : Bool) (text : Bytes) (report : Report)
    → IsHistory h → HoldsSayable h → replayed_text name h given fails ≡ finished k text report → HoldsSayable k

-- Whatever text gives a history from nothing: that history's export, read and replayed from nothing, gives the same refs, exactly
-- what these reach, and the commits in their order.
abbrev pub TextsComeBack : Type 0
TextsComeBack =
    (name : Kind → Bytes → Bytes) (h : History) (given : Bytes) (fails : Bool) (text : Bytes) (report : Report)
    → replayed_text name no_history given fails ≡ finished h text report → length (export_text h) < 2 ^ 64
    → (k : History) × IsAgain h k × (replayed_text name no_history (export_text h) false ≡ finished k [] (exported_report h k))

-- Where refs reach one, which no text brings but a store may hold, the text of the history's export has the commands before the
-- first that brings one, and no more can be read.
abbrev pub NullGitlinksEndCommands : Type 0
NullGitlinksEndCommands =
    (h : History) → IsHistory h → (HasNoNullGitlink h → ⊥) → HaveEncodingsAlone (reached_commits h) → length (export_text h) < 2 ^ 64
    → commands_of (items_of (export_text h) false) ≡ record { list = commands_before_null h; fault = Some Unsupported }

-- so its import is refused, at that command
abbrev pub NullGitlinksAreRefused : Type 0
NullGitlinksAreRefused =
    (name : Kind → Bytes → Bytes) (h : History)
    → IsHistory h → (HasNoNullGitlink h → ⊥) → HaveEncodingsAlone (reached_commits h) → length (export_text h) < 2 ^ 64
    → replayed_text name no_history (export_text h) false ≡ refused (length (commands_before_null h) + 1) Unsupported [] (start no_history).kept

-- The commands before it make no other values than the history has, and meet no fault.
abbrev pub CommandsBeforeNullAreReplayed : Type 0
CommandsBeforeNullAreReplayed =
    (name : Kind → Bytes → Bytes) (h : History) → IsHistory h
    → (k : History) × (report : Report) × ((u : Value) → IsIn k.values u → IsIn h.values u)
    × (replayed name 0 (start no_history) (commands_before_null h) None ≡ finished k [] report)
