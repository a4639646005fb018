use Rattle.std.proofs.Common.{subst}
use Rattle.clap.specs.Words.{with_rule}
use Rattle.gx_line.specs.Arguments.{done}
use Rattle.gx_line.specs.CommandLine.{Makes}
use Rattle.gx_line.proofs.command_line.commands.with_features.Goals as goal

pub returns : goal.returns
returns c = λ a h.
    let first = subst (λ r. Makes c.with_argument-with_done.result (with_rule a r)) c.done.ensures.rule (c.with_argument-with_done.ensures a h) in
    subst (λ r. Makes c.with_argument.result (with_rule (with_rule a done) r)) c.force.ensures.rule (c.with_argument.ensures (with_rule a done) first)
