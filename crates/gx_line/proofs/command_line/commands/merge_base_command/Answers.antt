use Rattle.std.proofs.Common.{ap, subst, ◌∙◌}
use Rattle.clap.specs.Words.{with_rule}
use Rattle.gx_line.specs.Arguments.{all, bound, octopus}
use Rattle.gx_line.specs.CommandLine.{Makes, compared_command}
use Rattle.gx_line.proofs.NeededArguments.{conflict_rule}
use Rattle.gx_line.proofs.command_line.commands.merge_base_command.Goals as goal

pub returns : goal.returns
returns c =
    let two = with_rule compared_command all in
    let three = with_rule two octopus in
    let alone = conflict_rule c.flag-is_ancestor.result c.in_ok-is_ancestor.is_ancestor _ c.in_ok-is_ancestor.ensures ∙ ap bound c.flag-is_ancestor.ensures.rule in
    let bare = conflict_rule c.in_ok-is_ancestor.is_ancestor c.in_ok-is_ancestor-2.is_ancestor _ c.in_ok-is_ancestor-2.ensures ∙ ap bound alone in
    let first = subst (λ r. Makes c.with_argument-base.result (with_rule compared_command r)) c.flag-all.ensures.rule (c.with_argument-base.ensures compared_command c.compared_command.ensures) in
    let second = subst (λ r. Makes c.with_argument-base-2.result (with_rule two r)) c.flag-octopus.ensures.rule (c.with_argument-base-2.ensures two first) in
    subst (λ r. Makes c.with_argument.result (with_rule three r)) bare (c.with_argument.ensures three second)
