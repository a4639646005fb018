use Rattle.std.proofs.Common.{ap, subst, ◌∙◌}
use Rattle.clap.specs.Words.{with_rule}
use Rattle.gx_line.specs.Arguments.{bound, changes_read, force}
use Rattle.gx_line.specs.CommandLine.{Makes, changed_command}
use Rattle.gx_line.proofs.NeededArguments.{conflict_rule}
use Rattle.gx_line.proofs.command_line.commands.set_ref_command.Goals as goal

pub returns : goal.returns
returns c =
    let read = with_rule changed_command changes_read in
    let asked = conflict_rule c.flag.result c.in_ok-stdin.stdin _ c.in_ok-stdin.ensures ∙ ap bound c.flag.ensures.rule in
    let first = subst (λ r. Makes c.with_argument-changed.result (with_rule changed_command r)) asked (c.with_argument-changed.ensures changed_command c.changed_command.ensures) in
    let second = subst (λ r. Makes c.with_argument.result (with_rule read r)) c.flag-force.ensures.rule (c.with_argument.ensures read first) in
    c.with_wait.ensures (with_rule read force) second
