use Rattle.std.proofs.Common.{codes, subst}
use Rattle.clap.specs.Words.{new_app, with_rule}
use Rattle.gx_line.specs.CommandLine.{Makes}
use Rattle.gx_line.proofs.command_line.commands.adapt_command.Goals as goal

pub returns : goal.returns
returns c =
    let adapt = new_app (codes "adapt") in
    subst (λ r. Makes c.with_argument.result (with_rule adapt r)) c.flag-drop_signatures.ensures.rule (c.with_argument.ensures adapt (c.command.ensures.app, c.command.ensures.local))
