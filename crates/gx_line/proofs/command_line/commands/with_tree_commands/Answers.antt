use Rattle.std.proofs.Common.{codes, subst}
use Rattle.clap.specs.Words.{with_rule}
use Rattle.gx_line.specs.CommandLine.{Makes, archive_command, batch_command, file_command, ls_command, show_command, under}
use Rattle.gx_line.proofs.command_line.commands.with_tree_commands.Goals as goal

pub returns : goal.returns
returns c = λ a h.
    let one = under a show_command in
    let two = under one ls_command in
    let three = under two archive_command in
    let show = subst (λ r. Makes c.with_argument-show.result (with_rule (file_command (codes "show")) r)) c.revision.ensures.rule (c.with_argument-show.ensures (file_command (codes "show")) c.file_command.ensures) in
    let first = c.with_command-gx.ensures a show_command h show in
    let second = c.with_command-gx-2.ensures one ls_command first c.ls_command.ensures in
    let third = c.with_command-gx-3.ensures two archive_command second c.archive_command.ensures in
    c.with_command.ensures three batch_command third c.batch_command.ensures
