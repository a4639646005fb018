use Rattle.std.proofs.Common.{ap, codes, subst, ◌∙◌, Some}
use Rattle.clap.specs.Words.{Rule, rule_of, with_rule}
use Rattle.gx_line.specs.Arguments.{all, bound, ranges, stdin}
use Rattle.gx_line.specs.CommandLine.{Makes, file_command}
use Rattle.gx_line.proofs.NeededArguments.{unless_rule}
use Rattle.gx_line.proofs.command_line.commands.chosen_command.Goals as goal

pub returns : goal.returns
returns c =
    let one = file_command (codes "log") in
    let two = with_rule one ranges in
    let three = with_rule two all in
    let four = with_rule three stdin in
    let counts = ap (λ a. rule_of a) c.short-max_count.ensures ∙ (ap (λ a. record (rule_of a) { short = Some 110 }) c.long.ensures ∙ ap (λ (r : Rule). record r { long = Some (codes "max-count"); short = Some 110 }) c.number.ensures.rule) in
    let needed = unless_rule c.any_words-ranges.result c.in_ok-ranges.ranges _ c.in_ok-ranges.ensures ∙ ap bound c.any_words-ranges.ensures.rule in
    let asked = unless_rule c.in_ok-ranges.ranges c.in_ok-ranges-2.ranges _ c.in_ok-ranges-2.ensures ∙ ap bound needed in
    let first = subst (λ r. Makes c.with_argument-log.result (with_rule one r)) asked (c.with_argument-log.ensures one c.file_command.ensures) in
    let second = subst (λ r. Makes c.with_argument-log-2.result (with_rule two r)) c.flag-all.ensures.rule (c.with_argument-log-2.ensures two first) in
    let third = subst (λ r. Makes c.with_argument-log-3.result (with_rule three r)) c.flag-stdin.ensures.rule (c.with_argument-log-3.ensures three second) in
    subst (λ r. Makes c.with_argument.result (with_rule four r)) counts (c.with_argument.ensures four third)
