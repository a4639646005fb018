use Rattle.std.proofs.Common.{codes, subst}
use Rattle.clap.specs.Words.{with_rule}
use Rattle.gx_line.specs.Arguments.{keep, report}
use Rattle.gx_line.specs.CommandLine.{Makes, file_command}
use Rattle.gx_line.proofs.command_line.commands.gc_command.Goals as goal

pub returns : goal.returns
returns c =
    let file = file_command (codes "gc") in
    let reporting = with_rule file report in
    let first = subst (λ r. Makes c.with_argument-collecting.result (with_rule file r)) c.flag-report.ensures.rule (c.with_argument-collecting.ensures file c.file_command.ensures) in
    let second = subst (λ r. Makes c.with_argument.result (with_rule reporting r)) c.text-keep.ensures.rule (c.with_argument.ensures reporting first) in
    c.with_wait.ensures (with_rule reporting keep) second
