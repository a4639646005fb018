-- What the laws of the export of changes say.
-- Source: git-fast-export(1) and git-fast-import(1).
use Rattle.std.specs.Prelude.{Bool, false, ◌≡◌, ◌^◌, ◌<◌, List, [], length, None}
use Rattle.std.specs.List.{AllByRecursion, flat_map}
use Rattle.gx_model.specs.declared.objects.Kind.{Kind}
use Rattle.gx_model.specs.Texts.{Bytes}
use Rattle.gx_model.specs.Streams.Items.{Finished}
use Rattle.gx_model.specs.Streams.Commands.{Command}
use Rattle.gx_model.specs.Streams.Grammar.{commands_of}
use Rattle.gx_model.specs.Histories.{History, IsHistory, Records, no_history}
use Rattle.gx_model.specs.Replay.{Report, finished, imported, replayed, replayed_text, start}
use Rattle.gx_model.specs.Export.{command_items, reached_commits}
use Rattle.gx_model.specs.Changes.{changes_commands, changes_text, closed_by, sending_commands}
use Rattle.gx_model.specs.Laws.Headline.{ComesBack, HasRecordsOf}
use Rattle.gx_model.specs.Laws.ExportLaws.{HasSayable, IsAgain, IsItem, IsReadable, IsSpelled}

-- commands that can be spelled have items that can be, with and without `feature done` and `done`
abbrev pub ClosedCommandsAreItems : Type 0
ClosedCommandsAreItems = (closed : Bool) (cs : List Command) → AllByRecursion IsSpelled cs → AllByRecursion IsItem (flat_map command_items (closed_by closed cs))

-- and are read as these commands
abbrev pub ClosedCommandsAreRead : Type 0
ClosedCommandsAreRead =
    (closed : Bool) (cs : List Command) → AllByRecursion IsSpelled cs
    → commands_of (record { items = flat_map command_items (closed_by closed cs); end = Finished }) ≡ record { list = closed_by closed cs; fault = None }

-- each command was read, and each value and each ref is new
abbrev pub changes_report : (Kind → Bytes → Bytes) → Bool → History → History → Report
changes_report name closed h k = record { commands = length (changes_commands name closed h); objects = length k.values; refs = length h.refs }

-- the commands of an export of changes, replayed from nothing, give the history's refs and what they reach
abbrev pub ChangesAreReplayed : Type 0
ChangesAreReplayed =
    (name : Kind → Bytes → Bytes) (closed : Bool) (h : History) → IsHistory h
    → (k : History) × IsAgain h k × (replayed name 0 (start no_history) (changes_commands name closed h) None ≡ finished k [] (changes_report name closed h k))

-- lengths and marks fit where the text does
abbrev pub ShortChangesAreReadable : Type 0
ShortChangesAreReadable = (name : Kind → Bytes → Bytes) (closed : Bool) (h : History) → IsHistory h → HasSayable h → length (changes_text name closed h) < 2 ^ 64 → IsReadable h

-- the commands of a history that can be read can be spelled
abbrev pub ChangesAreSpelled : Type 0
ChangesAreSpelled = (name : Kind → Bytes → Bytes) (h : History) → IsHistory h → IsReadable h → AllByRecursion IsSpelled (sending_commands name (reached_commits h) h.refs)

-- importing the export of a history's changes gives the same refs and exactly what they reach
abbrev pub ChangesAreImported : Type 0
ChangesAreImported =
    (name : Kind → Bytes → Bytes) (closed : Bool) (h : History) → IsHistory h → IsReadable h
    → (k : History) × IsAgain h k × (replayed_text name no_history (changes_text name closed h) false ≡ finished k [] (changes_report name closed h k))

-- Whatever text gives a history from nothing: the history's export of changes, read and replayed from nothing, gives the same refs,
-- exactly what these reach, and the commits in their order.
abbrev pub TextsComeBackByChanges : Type 0
TextsComeBackByChanges =
    (name : Kind → Bytes → Bytes) (closed : Bool) (h : History) (given : Bytes) (fails : Bool) (text : Bytes) (report : Report)
    → replayed_text name no_history given fails ≡ finished h text report → length (changes_text name closed h) < 2 ^ 64
    → (k : History) × IsAgain h k × (replayed_text name no_history (changes_text name closed h) false ≡ finished k [] (changes_report name closed h k))

-- And each repository that has the records of what the text gave comes back: exactly the objects that refs reach, under their names.
abbrev pub RepositoriesComeBackByChanges : (Kind → Bytes → Bytes) → Type 0
RepositoriesComeBackByChanges name =
    (closed : Bool) (given : Bytes) (fails : Bool) (h : History) (progress : Bytes) (report : Report) (repository : Records)
    → imported name no_history given fails ≡ finished h progress report → HasRecordsOf name repository h → length (changes_text name closed h) < 2 ^ 64
    → (k : History) × (new : Records)
    × (imported name no_history (changes_text name closed h) false ≡ finished k [] (changes_report name closed h k)) × ComesBack name repository h new k
