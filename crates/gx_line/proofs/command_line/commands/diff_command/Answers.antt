use Rattle.std.proofs.Common.{subst}
use Rattle.clap.specs.Words.{with_rule}
use Rattle.gx_line.specs.Arguments.{exit_code, quiet}
use Rattle.gx_line.specs.CommandLine.{Makes, patched_command}
use Rattle.gx_line.proofs.command_line.commands.diff_command.Goals as goal

pub returns : goal.returns
returns c =
    let two = with_rule patched_command quiet in
    let three = with_rule two exit_code in
    let first = subst (λ r. Makes c.with_argument-diff.result (with_rule patched_command r)) c.flag-quiet.ensures.rule (c.with_argument-diff.ensures patched_command c.patched_command.ensures) in
    let second = subst (λ r. Makes c.with_argument-diff-2.result (with_rule two r)) c.flag-exit_code.ensures.rule (c.with_argument-diff-2.ensures two first) in
    subst (λ r. Makes c.with_argument.result (with_rule three r)) c.letter-nul.ensures.rule (c.with_argument.ensures three second)
