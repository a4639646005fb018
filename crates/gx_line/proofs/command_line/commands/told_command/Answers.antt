use Rattle.std.proofs.Common.{codes, subst}
use Rattle.clap.specs.Words.{with_rule}
use Rattle.gx_line.specs.Arguments.{new_revision, old_revision}
use Rattle.gx_line.specs.CommandLine.{Makes, file_command}
use Rattle.gx_line.proofs.command_line.commands.told_command.Goals as goal

pub returns : goal.returns
returns c =
    let one = file_command (codes "diff") in
    let two = with_rule one old_revision in
    let three = with_rule two new_revision in
    let first = subst (λ r. Makes c.with_argument-diff.result (with_rule one r)) c.one_word-before.ensures.rule (c.with_argument-diff.ensures one c.file_command.ensures) in
    let second = subst (λ r. Makes c.with_argument-diff-2.result (with_rule two r)) c.one_word-after.ensures.rule (c.with_argument-diff-2.ensures two first) in
    subst (λ r. Makes c.with_argument.result (with_rule three r)) c.any_words-paths.ensures.rule (c.with_argument.ensures three second)
