use Rattle.std.proofs.Common.{codes, subst}
use Rattle.clap.specs.Words.{with_rule}
use Rattle.gx_line.specs.Arguments.{revision}
use Rattle.gx_line.specs.CommandLine.{Makes, file_command}
use Rattle.gx_line.proofs.command_line.commands.archive_command.Goals as goal

pub returns : goal.returns
returns c =
    let archive = file_command (codes "archive") in
    let first = subst (λ r. Makes c.with_argument-archive.result (with_rule archive r)) c.revision.ensures.rule (c.with_argument-archive.ensures archive c.file_command-archive.ensures) in
    subst (λ r. Makes c.with_argument.result (with_rule (with_rule archive revision) r)) c.text-prefix.ensures.rule (c.with_argument.ensures (with_rule archive revision) first)
