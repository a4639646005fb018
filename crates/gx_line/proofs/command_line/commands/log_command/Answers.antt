use Rattle.std.proofs.Common.{ap, subst, ◌∙◌}
use Rattle.clap.specs.Words.{with_rule}
use Rattle.gx_line.specs.Arguments.{bound, count, parents, reverse}
use Rattle.gx_line.specs.CommandLine.{Makes, filtered_command}
use Rattle.gx_line.proofs.NeededArguments.{conflict_rule}
use Rattle.gx_line.proofs.command_line.commands.log_command.Goals as goal

pub returns : goal.returns
returns c =
    let two = with_rule filtered_command reverse in
    let three = with_rule two count in
    let four = with_rule three parents in
    let plain = conflict_rule c.flag.result c.in_ok-parents.parents _ c.in_ok-parents.ensures ∙ ap bound c.flag.ensures.rule in
    let first = subst (λ r. Makes c.with_argument-log.result (with_rule filtered_command r)) c.flag-reverse.ensures.rule (c.with_argument-log.ensures filtered_command c.filtered_command.ensures) in
    let second = subst (λ r. Makes c.with_argument-log-2.result (with_rule two r)) c.flag-count.ensures.rule (c.with_argument-log-2.ensures two first) in
    let third = subst (λ r. Makes c.with_argument-log-3.result (with_rule three r)) plain (c.with_argument-log-3.ensures three second) in
    subst (λ r. Makes c.with_argument.result (with_rule four r)) c.text-format.ensures.rule (c.with_argument.ensures four third)
