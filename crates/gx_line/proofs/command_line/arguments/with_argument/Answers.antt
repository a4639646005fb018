use Rattle.std.proofs.lemmas.Result.{IfOk-at_ok, IfOk-weaker}
use Rattle.gx_line.specs.CommandLine.{IsMade}
use Rattle.gx_line.proofs.MadeCommands.{argument_made}
use Rattle.gx_line.proofs.command_line.arguments.with_argument.Goals as goal

pub returns-in-Ok : goal.returns-in-Ok
returns-in-Ok c = λ a h.
    let made = IfOk-at_ok (λ m. IsMade m a) c.in-Ok.is h in
    IfOk-weaker c.arg.result _ _ (λ m s. argument_made c.in-Ok.command m c.args.argument a c.requires made s) c.arg.ensures

pub returns : goal.returns
returns c = λ a h. tt
