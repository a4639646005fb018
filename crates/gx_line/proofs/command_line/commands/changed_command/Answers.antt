use Rattle.std.proofs.Common.{ap, codes, subst, ◌∙◌}
use Rattle.clap.specs.Words.{with_rule}
use Rattle.gx_line.specs.Arguments.{bound, changed_ref, new_value}
use Rattle.gx_line.specs.CommandLine.{Makes, file_command}
use Rattle.gx_line.proofs.NeededArguments.{unless_rule}
use Rattle.gx_line.proofs.command_line.commands.changed_command.Goals as goal

pub returns : goal.returns
returns c =
    let file = file_command (codes "set-ref") in
    let named = with_rule file changed_ref in
    let valued = with_rule named new_value in
    let name = unless_rule c.any_word.result c.in_ok-name.name _ c.in_ok-name.ensures ∙ ap bound c.any_word.ensures.rule in
    let new = unless_rule c.any_word-2.result c.in_ok-new.new _ c.in_ok-new.ensures ∙ ap bound c.any_word-2.ensures.rule in
    let first = subst (λ r. Makes c.with_argument-changed.result (with_rule file r)) name (c.with_argument-changed.ensures file c.file_command.ensures) in
    let second = subst (λ r. Makes c.with_argument-changed-2.result (with_rule named r)) new (c.with_argument-changed-2.ensures named first) in
    subst (λ r. Makes c.with_argument.result (with_rule valued r)) c.any_word-old.ensures.rule (c.with_argument.ensures valued second)
