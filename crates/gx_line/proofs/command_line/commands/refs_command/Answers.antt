use Rattle.std.proofs.Common.{codes, subst}
use Rattle.clap.specs.Words.{with_rule}
use Rattle.gx_line.specs.Arguments.{patterns}
use Rattle.gx_line.specs.CommandLine.{Makes, file_command}
use Rattle.gx_line.proofs.command_line.commands.refs_command.Goals as goal

pub returns : goal.returns
returns c =
    let file = file_command (codes "refs") in
    let first = subst (λ r. Makes c.with_argument-refs.result (with_rule file r)) c.any_words-patterns.ensures.rule (c.with_argument-refs.ensures file c.file_command.ensures) in
    c.tested_command.ensures (with_rule file patterns) first
