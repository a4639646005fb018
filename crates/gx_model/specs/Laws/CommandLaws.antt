-- What holds of the commands of all items.
-- Source: git-fast-import(1), "Commands".
use Rattle.std.specs.Prelude.{◌≡◌}
use Rattle.gx_model.specs.Streams.Items.{Stream}
use Rattle.gx_model.specs.declared.features.Features.{Features}
use Rattle.gx_model.specs.Streams.Commands.{Commands}
use Rattle.gx_model.specs.Streams.Grammar.{asked, commands_asked}
use Rattle.gx_model.specs.Streams.CommandShapes.{AreCommands}

-- items with their end have, behind the commands that ask for features, the shape of the commands that the function gives
abbrev pub SomeCommands : Type 0
SomeCommands = (f : Features) (s : Stream) → AreCommands s.end (asked f) s.items (commands_asked f s)

-- and of no others
abbrev pub OneCommands : Type 0
OneCommands = (f : Features) (s : Stream) (cs : Commands) → AreCommands s.end (asked f) s.items cs → commands_asked f s ≡ cs
