use Rattle.std.proofs.Common.{codes, subst}
use Rattle.clap.specs.Words.{new_app, with_rule}
use Rattle.gx_line.specs.CommandLine.{Makes, with_features}
use Rattle.gx_line.proofs.command_line.commands.check_command.Goals as goal

pub returns : goal.returns
returns c =
    let made = new_app (codes "check") in
    let featured = c.with_features-check.ensures made (c.command.ensures.app, c.command.ensures.local) in
    subst (λ r. Makes c.with_argument.result (with_rule (with_features made) r)) c.explain.ensures.rule (c.with_argument.ensures (with_features made) featured)
