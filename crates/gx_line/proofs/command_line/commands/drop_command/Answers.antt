use Rattle.std.proofs.Common.{ap, codes, subst, ◌∙◌}
use Rattle.clap.specs.Words.{with_rule}
use Rattle.gx_line.specs.Arguments.{bound, refs, stdin}
use Rattle.gx_line.specs.CommandLine.{Makes, file_command}
use Rattle.gx_line.proofs.NeededArguments.{unless_rule}
use Rattle.gx_line.proofs.command_line.commands.drop_command.Goals as goal

pub returns : goal.returns
returns c =
    let file = file_command (codes "drop") in
    let named = with_rule file refs in
    let needed = unless_rule c.any_words.result c.in_ok-refs.refs _ c.in_ok-refs.ensures ∙ ap bound c.any_words.ensures.rule in
    let first = subst (λ r. Makes c.with_argument-dropping.result (with_rule file r)) needed (c.with_argument-dropping.ensures file c.file_command.ensures) in
    let second = subst (λ r. Makes c.with_argument.result (with_rule named r)) c.flag-stdin.ensures.rule (c.with_argument.ensures named first) in
    c.with_wait.ensures (with_rule named stdin) second
