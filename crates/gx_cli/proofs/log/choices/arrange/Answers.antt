use Rattle.std.proofs.Common.{ap, ◌∙◌}
use Rattle.gx_print.specs.Logs.{turned}
use Rattle.gx_cli.proofs.log.choices.arrange.Goals as goal

pub returns : goal.returns
returns g c = c.turn.ensures ∙ ap (turned c.args.options.reverse) c.limit.ensures
