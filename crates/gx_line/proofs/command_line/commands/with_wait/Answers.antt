use Rattle.std.proofs.Common.{ap, codes, subst, ◌∙◌, Some}
use Rattle.clap.specs.Words.{Rule, rule_of, with_rule}
use Rattle.gx_line.specs.CommandLine.{Makes}
use Rattle.gx_line.proofs.command_line.commands.with_wait.Goals as goal

pub returns : goal.returns
returns c = λ a h.
    let waits = ap (λ a. rule_of a) c.long-wait.ensures ∙ ap (λ (r : Rule). record r { long = Some (codes "wait") }) c.number.ensures.rule in
    subst (λ r. Makes c.with_argument.result (with_rule a r)) waits (c.with_argument.ensures a h)
