use Rattle.std.proofs.Common.{codes, subst}
use Rattle.clap.specs.Words.{with_rule}
use Rattle.gx_line.specs.Arguments.{revision}
use Rattle.gx_line.specs.CommandLine.{Makes, file_command}
use Rattle.gx_line.proofs.command_line.commands.compared_command.Goals as goal

pub returns : goal.returns
returns c =
    let one = file_command (codes "merge-base") in
    let two = with_rule one revision in
    let first = subst (λ r. Makes c.with_argument-base.result (with_rule one r)) c.revision.ensures.rule (c.with_argument-base.ensures one c.file_command-base.ensures) in
    subst (λ r. Makes c.with_argument.result (with_rule two r)) c.words-others.ensures.rule (c.with_argument.ensures two first)
