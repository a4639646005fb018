use Rattle.std.proofs.lemmas.Result.{IfOk-at_ok, IfOk-weaker}
use Rattle.gx_line.specs.CommandLine.{IsMade}
use Rattle.gx_line.proofs.MadeCommands.{command_made}
use Rattle.gx_line.proofs.command_line.commands.with_command.Goals as goal

pub returns-in-Ok-sub : goal.returns-in-Ok-sub
returns-in-Ok-sub c = λ a b h k.
    let old = IfOk-at_ok (λ m. IsMade m a) c.in-Ok.is h in
    let made = IfOk-at_ok (λ m. IsMade m b) c.in-Ok-sub.is k in
    IfOk-weaker c.subcommand.result _ _ (λ m s. command_made c.in-Ok.command c.in-Ok-sub.sub m a b old made s) c.subcommand.ensures

pub returns-in-Ok : goal.returns-in-Ok
returns-in-Ok c = λ a b h k. tt

pub returns : goal.returns
returns c = λ a b h k. tt
