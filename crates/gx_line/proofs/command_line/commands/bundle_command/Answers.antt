use Rattle.std.proofs.Common.{codes, subst}
use Rattle.clap.specs.Words.{with_rule}
use Rattle.gx_line.specs.Arguments.{all, head, told_ranges}
use Rattle.gx_line.specs.CommandLine.{Makes, file_command}
use Rattle.gx_line.proofs.command_line.commands.bundle_command.Goals as goal

pub returns : goal.returns
returns c =
    let bundle = file_command (codes "bundle") in
    let two = with_rule bundle told_ranges in
    let three = with_rule two all in
    let four = with_rule three head in
    let first = subst (λ r. Makes c.with_argument-bundle.result (with_rule bundle r)) c.any_words-ranges.ensures.rule (c.with_argument-bundle.ensures bundle c.file_command.ensures) in
    let second = subst (λ r. Makes c.with_argument-bundle-2.result (with_rule two r)) c.flag-all.ensures.rule (c.with_argument-bundle-2.ensures two first) in
    let third = subst (λ r. Makes c.with_argument-bundle-3.result (with_rule three r)) c.text-head.ensures.rule (c.with_argument-bundle-3.ensures three second) in
    subst (λ r. Makes c.with_argument.result (with_rule four r)) c.flag-pack.ensures.rule (c.with_argument.ensures four third)
