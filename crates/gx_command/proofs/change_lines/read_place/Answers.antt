use Rattle.std.proofs.Common.{rules}
use Rattle.gx_command.proofs.change_lines.read_place.Goals as goal

pub returns-clause-place : goal.returns-clause-place
returns-clause-place c = search rules
