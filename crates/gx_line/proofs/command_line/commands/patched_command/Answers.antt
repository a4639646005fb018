use Rattle.std.proofs.Common.{Some, [], ◌∷◌, ◌++◌, ap, codes, subst, ◌∙◌}
use Rattle.clap.specs.Words.{Rule, rule_of, with_rule}
use Rattle.gx_line.specs.Arguments.{bound}
use Rattle.gx_line.specs.CommandLine.{Makes, formed_command}
use Rattle.gx_line.proofs.NeededArguments.{alias_rule, conflict_rule}
use Rattle.gx_line.proofs.command_line.commands.patched_command.Goals as goal

pub returns : goal.returns
returns c =
    let short = ap (λ a. rule_of a) c.short.ensures ∙ ap (λ (r : Rule). record r { short = Some 112 }) c.flag-patch.ensures.rule in
    let letters = alias_rule c.short.result c.in_ok-patch.patch _ c.in_ok-patch.ensures ∙ ap (λ (r : Rule). record r { short_aliases = r.short_aliases ++ 117 ∷ [] }) short in
    let beside_status = conflict_rule c.in_ok-patch.patch c.in_ok-patch-2.patch _ c.in_ok-patch-2.ensures ∙ ap bound letters in
    let beside_paths = conflict_rule c.in_ok-patch-2.patch c.in_ok-patch-3.patch _ c.in_ok-patch-3.ensures ∙ ap bound beside_status in
    let beside_raw = conflict_rule c.in_ok-patch-3.patch c.in_ok-patch-4.patch _ c.in_ok-patch-4.ensures ∙ ap bound beside_paths in
    let beside_count = conflict_rule c.in_ok-patch-4.patch c.in_ok-patch-5.patch _ c.in_ok-patch-5.ensures ∙ ap bound beside_raw in
    let beside_nul = conflict_rule c.in_ok-patch-5.patch c.in_ok-patch-6.patch _ c.in_ok-patch-6.ensures ∙ ap bound beside_count in
    subst (λ r. Makes c.with_argument.result (with_rule formed_command r)) beside_nul (c.with_argument.ensures formed_command c.formed_command.ensures)
