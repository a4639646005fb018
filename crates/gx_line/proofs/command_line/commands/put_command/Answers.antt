use Rattle.std.proofs.Common.{ap, codes, subst, true, ◌∙◌}
use Rattle.clap.specs.Words.{Rule, rule_of, with_rule}
use Rattle.gx_line.specs.Arguments.{expect_stamp}
use Rattle.gx_line.specs.CommandLine.{Makes, file_command}
use Rattle.gx_line.proofs.command_line.commands.put_command.Goals as goal

pub returns : goal.returns
returns c =
    let file = file_command (codes "put") in
    let needed = ap (λ a. rule_of a) c.required-stamp.ensures ∙ ap (λ (r : Rule). record r { required = true }) c.text.ensures.rule in
    let first = subst (λ r. Makes c.with_argument-putting.result (with_rule file r)) needed (c.with_argument-putting.ensures file c.file_command.ensures) in
    c.with_wait.ensures (with_rule file expect_stamp) first
