use Rattle.std.proofs.Common.{ap, codes, subst, ◌∙◌, Some}
use Rattle.clap.specs.Words.{Rule, rule_of, with_rule}
use Rattle.gx_line.specs.Arguments.{merges, no_merges, since, until}
use Rattle.gx_line.specs.CommandLine.{Makes, chosen_command}
use Rattle.gx_line.proofs.command_line.commands.filtered_command.Goals as goal

pub returns : goal.returns
returns c =
    let one = chosen_command in
    let two = with_rule one merges in
    let three = with_rule two no_merges in
    let four = with_rule three since in
    let five = with_rule four until in
    let first_time = ap (λ a. rule_of a) c.long-since.ensures ∙ ap (λ (r : Rule). record r { long = Some (codes "since") }) c.number.ensures.rule in
    let last_time = ap (λ a. rule_of a) c.long-until.ensures ∙ ap (λ (r : Rule). record r { long = Some (codes "until") }) c.number-2.ensures.rule in
    let passed = ap (λ a. rule_of a) c.long-skip.ensures ∙ ap (λ (r : Rule). record r { long = Some (codes "skip") }) c.number-3.ensures.rule in
    let first = subst (λ r. Makes c.with_argument-log.result (with_rule one r)) c.flag-merges.ensures.rule (c.with_argument-log.ensures one c.chosen_command.ensures) in
    let second = subst (λ r. Makes c.with_argument-log-2.result (with_rule two r)) c.flag-no_merges.ensures.rule (c.with_argument-log-2.ensures two first) in
    let third = subst (λ r. Makes c.with_argument-log-3.result (with_rule three r)) first_time (c.with_argument-log-3.ensures three second) in
    let fourth = subst (λ r. Makes c.with_argument-log-4.result (with_rule four r)) last_time (c.with_argument-log-4.ensures four third) in
    subst (λ r. Makes c.with_argument.result (with_rule five r)) passed (c.with_argument.ensures five fourth)
