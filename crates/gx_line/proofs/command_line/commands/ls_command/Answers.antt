use Rattle.std.proofs.Common.{ap, codes, subst, ◌∙◌, Some}
use Rattle.clap.specs.Words.{Rule, rule_of, with_rule}
use Rattle.gx_line.specs.Arguments.{revision}
use Rattle.gx_line.specs.CommandLine.{Makes, file_command}
use Rattle.gx_line.proofs.command_line.commands.ls_command.Goals as goal

pub returns : goal.returns
returns c =
    let ls = file_command (codes "ls") in
    let lists = ap (λ a. rule_of a) c.short-recursive.ensures ∙ ap (λ (r : Rule). record r { short = Some 114 }) c.flag.ensures.rule in
    let of_revision = subst (λ r. Makes c.with_argument-ls.result (with_rule ls r)) c.revision.ensures.rule (c.with_argument-ls.ensures ls c.file_command-ls.ensures) in
    subst (λ r. Makes c.with_argument.result (with_rule (with_rule ls revision) r)) lists (c.with_argument.ensures (with_rule ls revision) of_revision)
