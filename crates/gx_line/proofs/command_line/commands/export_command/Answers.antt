use Rattle.std.proofs.Common.{ap, codes, subst, ◌∙◌}
use Rattle.clap.specs.Words.{with_rule}
use Rattle.gx_line.specs.Arguments.{bound, changes, no_done}
use Rattle.gx_line.specs.CommandLine.{Makes, file_command}
use Rattle.gx_line.proofs.NeededArguments.{needs_rule}
use Rattle.gx_line.proofs.command_line.commands.export_command.Goals as goal

pub returns : goal.returns
returns c =
    let export = file_command (codes "export") in
    let changed = with_rule export changes in
    let closed = with_rule changed no_done in
    let needs = needs_rule c.flag.result c.in_ok-no_done.no_done _ c.in_ok-no_done.ensures ∙ ap bound c.flag.ensures.rule in
    let ranges = needs_rule c.any_words.result c.in_ok-ranges.ranges _ c.in_ok-ranges.ensures ∙ ap bound c.any_words.ensures.rule in
    let first = subst (λ r. Makes c.with_argument-export.result (with_rule export r)) c.flag-changes.ensures.rule (c.with_argument-export.ensures export c.file_command.ensures) in
    let second = subst (λ r. Makes c.with_argument-export-2.result (with_rule changed r)) needs (c.with_argument-export-2.ensures changed first) in
    subst (λ r. Makes c.with_argument.result (with_rule closed r)) ranges (c.with_argument.ensures closed second)
