use Rattle.std.proofs.Common.{refl}
use Rattle.gx_command.proofs.reader.State.at_start.Goals as goal

pub returns : goal.returns
returns c = refl
