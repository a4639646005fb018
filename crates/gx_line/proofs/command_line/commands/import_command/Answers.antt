use Rattle.std.proofs.Common.{subst}
use Rattle.clap.specs.Words.{with_rule}
use Rattle.gx_line.specs.Arguments.{objects, push}
use Rattle.gx_line.specs.CommandLine.{Makes, telling_import}
use Rattle.gx_line.proofs.command_line.commands.import_command.Goals as goal

pub returns : goal.returns
returns c =
    let pushing = with_rule telling_import push in
    let first = subst (λ r. Makes c.with_argument-import.result (with_rule telling_import r)) c.text-push.ensures.rule (c.with_argument-import.ensures telling_import c.telling_import.ensures) in
    let second = subst (λ r. Makes c.with_argument.result (with_rule pushing r)) c.flag-objects.ensures.rule (c.with_argument.ensures pushing first) in
    c.with_wait.ensures (with_rule pushing objects) second
