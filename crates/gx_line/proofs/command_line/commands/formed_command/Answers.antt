use Rattle.std.proofs.Common.{ap, subst, ◌∙◌}
use Rattle.clap.specs.Words.{with_rule}
use Rattle.gx_line.specs.Arguments.{bound, name_only, name_status, raw}
use Rattle.gx_line.specs.CommandLine.{Makes, told_command}
use Rattle.gx_line.proofs.NeededArguments.{conflict_rule}
use Rattle.gx_line.proofs.command_line.commands.formed_command.Goals as goal

pub returns : goal.returns
returns c =
    let two = with_rule told_command name_status in
    let three = with_rule two name_only in
    let four = with_rule three raw in
    let status = conflict_rule c.flag-name_status.result c.in_ok-name_status.name_status _ c.in_ok-name_status.ensures ∙ ap bound c.flag-name_status.ensures.rule in
    let status_more = conflict_rule c.in_ok-name_status.name_status c.in_ok-name_status-2.name_status _ c.in_ok-name_status-2.ensures ∙ ap bound status in
    let status_all = conflict_rule c.in_ok-name_status-2.name_status c.in_ok-name_status-3.name_status _ c.in_ok-name_status-3.ensures ∙ ap bound status_more in
    let paths = conflict_rule c.flag-name_only.result c.in_ok-name_only.name_only _ c.in_ok-name_only.ensures ∙ ap bound c.flag-name_only.ensures.rule in
    let paths_all = conflict_rule c.in_ok-name_only.name_only c.in_ok-name_only-2.name_only _ c.in_ok-name_only-2.ensures ∙ ap bound paths in
    let whole = conflict_rule c.flag-raw.result c.in_ok-raw.raw _ c.in_ok-raw.ensures ∙ ap bound c.flag-raw.ensures.rule in
    let first = subst (λ r. Makes c.with_argument-diff.result (with_rule told_command r)) status_all (c.with_argument-diff.ensures told_command c.told_command.ensures) in
    let second = subst (λ r. Makes c.with_argument-diff-2.result (with_rule two r)) paths_all (c.with_argument-diff-2.ensures two first) in
    let third = subst (λ r. Makes c.with_argument-diff-3.result (with_rule three r)) whole (c.with_argument-diff-3.ensures three second) in
    subst (λ r. Makes c.with_argument.result (with_rule four r)) c.flag-count.ensures.rule (c.with_argument.ensures four third)
