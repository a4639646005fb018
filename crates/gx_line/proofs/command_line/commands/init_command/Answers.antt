use Rattle.std.proofs.Common.{codes, subst}
use Rattle.clap.specs.Words.{with_rule}
use Rattle.gx_line.specs.Arguments.{growing}
use Rattle.gx_line.specs.CommandLine.{Makes, file_command}
use Rattle.gx_line.proofs.command_line.commands.init_command.Goals as goal

pub returns : goal.returns
returns c =
    let file = file_command (codes "init") in
    let first = subst (λ r. Makes c.with_argument-init.result (with_rule file r)) c.flag-growing.ensures.rule (c.with_argument-init.ensures file c.file_command.ensures) in
    c.with_wait.ensures (with_rule file growing) first
