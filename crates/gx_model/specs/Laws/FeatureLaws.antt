-- What it is that features are asked for: as if the stream began with their lines.
-- Source: git-fast-import(1), "--done" and "--force".
use Rattle.std.specs.Prelude.{◌≡◌, ◌++◌, true, false, codes, List, [], ◌∷◌, length, if◌then◌else◌}
use Rattle.gx_model.specs.declared.objects.Kind.{Kind}
use Rattle.gx_model.specs.declared.features.Features.{Features}
use Rattle.gx_model.specs.Texts.{Bytes}
use Rattle.gx_model.specs.Histories.{History}
use Rattle.gx_model.specs.Streams.Items.{Item, Line, Stream, items_of}
use Rattle.gx_model.specs.Streams.Commands.{Commands}
use Rattle.gx_model.specs.Streams.Grammar.{asked, commands_asked, commands_of}
use Rattle.gx_model.specs.Export.{export_text}
use Rattle.gx_model.specs.Changes.{changes_text}
use Rattle.gx_model.specs.Replay.{begun, replayed, replayed_commands}

-- the lines that ask for these features
abbrev pub asking_lines : Features → List Item
asking_lines f = (if f.done then Line (codes "feature done") ∷ [] else []) ++ (if f.force then Line (codes "feature force") ∷ [] else [])

-- a stream with these lines before it
abbrev pub asking : Features → Stream → Stream
asking f s = record s { items = asking_lines f ++ s.items }

-- the commands that ask for features, and then these
abbrev pub behind_asked : Features → Commands → Commands
behind_asked f cs = record cs { list = asked f ++ cs.list }

-- The commands of a stream are those behind the lines that ask for the features.
abbrev pub CommandsAreAsked : Type 0
CommandsAreAsked = (f : Features) (s : Stream) → commands_of (asking f s) ≡ behind_asked f (commands_asked f s)

-- Replayed, both give the same, but that the numbers of commands count the lines.
abbrev pub ReplaysAreAsked : Type 0
ReplaysAreAsked =
    (name : Kind → Bytes → Bytes) (f : Features) (h : History) (s : Stream)
    → replayed_commands name h (commands_of (asking f s)) ≡ replayed name (length (asked f)) (begun f h) (commands_asked f s).list (commands_asked f s).fault

-- The text of an export asks for `done` itself: its commands are the same whatever features are asked for.
abbrev pub ExportsAskOnce : Type 0
ExportsAskOnce = (f : Features) (h : History) → commands_asked f (items_of (export_text h) false) ≡ commands_of (items_of (export_text h) false)

-- So does the text of an export of changes with `done`.
abbrev pub ChangesAskOnce : Type 0
ChangesAskOnce =
    (name : Kind → Bytes → Bytes) (f : Features) (h : History)
    → commands_asked f (items_of (changes_text name true h) false) ≡ commands_of (items_of (changes_text name true h) false)
