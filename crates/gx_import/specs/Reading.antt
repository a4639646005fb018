-- What the reader of a stream is at the start of an import, and what it gives.
-- Source: git-fast-import(1), "Commands".
use Rattle.std.specs.Prelude.{◌≡◌, Option, Result}
use Rattle.std.specs.Option.{option_map}
use Rattle.gx_model.specs.declared.features.Features.{Features}
use Rattle.gx_model.specs.Streams.Commands.{Commands}
use Rattle.gx_text.specs.Devices.{Coming}
use Rattle.gx_command.specs.Reading.{AreOfItems, ExplainsNext, MayCome, Reads, Seen, commands_asked_from}
use Rattle.gx_command.specs.declared.commands.Command.{Command}
use Rattle.gx_command.specs.declared.fault.CommandFault.{CommandFault}

-- All that comes of a reader are the commands of a source, or of some items where it tells nothing, behind the features that
-- are asked for.
pub record IsAskedOf (asks : Features) (coming : Option Coming) (reader : Seen) : Type 0 where
  pub commands : reader.commands ≡ option_map (commands_asked_from asks) coming
  pub items : (commands : Commands) → MayCome reader commands → AreOfItems asks commands

-- a reader's answer, by what the source tells and by what may come
pub record GivesNext {A : Type 0} (old new : Seen) (answer : Result (Option (Command A)) CommandFault) : Type 0 where
  pub reads : Reads old.commands new.commands answer
  pub explains : ExplainsNext (MayCome old) (MayCome new) answer
