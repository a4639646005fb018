use Rattle.std.proofs.Common.{codes}
use Rattle.gx_line.specs.CommandLine.{file_command}
use Rattle.gx_line.proofs.command_line.commands.grow_command.Goals as goal

pub returns : goal.returns
returns c = c.with_wait.ensures (file_command (codes "grow")) c.file_command.ensures
