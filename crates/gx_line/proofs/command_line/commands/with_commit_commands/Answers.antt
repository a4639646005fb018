use Rattle.std.proofs.Common.{codes, subst}
use Rattle.clap.specs.Words.{with_rule}
use Rattle.gx_line.specs.CommandLine.{Makes, diff_command, file_command, log_command, merge_base_command, rev_parse_command, under}
use Rattle.gx_line.proofs.command_line.commands.with_commit_commands.Goals as goal

pub returns : goal.returns
returns c = λ a h.
    let file = file_command (codes "rev-parse") in
    let one = under a log_command in
    let two = under one rev_parse_command in
    let first = c.with_command-gx.ensures a log_command h c.log_command.ensures in
    let rev_parse = subst (λ r. Makes c.with_argument-rev_parse.result (with_rule file r)) c.words-revisions.ensures.rule (c.with_argument-rev_parse.ensures file c.file_command-rev_parse.ensures) in
    let second = c.with_command-gx-2.ensures one rev_parse_command first rev_parse in
    let three = under two merge_base_command in
    let third = c.with_command-gx-3.ensures two merge_base_command second c.merge_base_command.ensures in
    c.with_command.ensures three diff_command third c.diff_command.ensures
