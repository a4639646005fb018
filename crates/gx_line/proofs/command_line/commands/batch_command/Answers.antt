use Rattle.std.proofs.Common.{ap, codes, subst, ◌∙◌}
use Rattle.clap.specs.Words.{with_rule}
use Rattle.gx_line.specs.Arguments.{bound, check, commands, format}
use Rattle.gx_line.specs.CommandLine.{Makes, file_command}
use Rattle.gx_line.proofs.NeededArguments.{conflict_rule}
use Rattle.gx_line.proofs.command_line.commands.batch_command.Goals as goal

pub returns : goal.returns
returns c =
    let one = file_command (codes "batch") in
    let two = with_rule one check in
    let three = with_rule two commands in
    let four = with_rule three format in
    let asked = conflict_rule c.flag.result c.in_ok-commands.commands _ c.in_ok-commands.ensures ∙ ap bound c.flag.ensures.rule in
    let first = subst (λ r. Makes c.with_argument-batch.result (with_rule one r)) c.flag-check.ensures.rule (c.with_argument-batch.ensures one c.file_command.ensures) in
    let second = subst (λ r. Makes c.with_argument-batch-2.result (with_rule two r)) asked (c.with_argument-batch-2.ensures two first) in
    let third = subst (λ r. Makes c.with_argument-batch-3.result (with_rule three r)) c.text-format.ensures.rule (c.with_argument-batch-3.ensures three second) in
    subst (λ r. Makes c.with_argument.result (with_rule four r)) c.letter-nul.ensures.rule (c.with_argument.ensures four third)
