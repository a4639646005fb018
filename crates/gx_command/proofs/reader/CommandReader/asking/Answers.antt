use Rattle.gx_command.proofs.AskedCommands.{asked_ahead}
use Rattle.gx_command.proofs.ExplainedCommands.{asked_items}
use Rattle.gx_command.proofs.reader.CommandReader.asking.Goals as goal

pub returns-clause-commands : goal.returns-clause-commands
returns-clause-commands g c = rw c.at_start.ensures (asked_ahead c.args.features (g.R.Source.coming c.args.source) _ c.new.ensures.comes)

pub returns-clause-explains : goal.returns-clause-explains
returns-clause-explains g c = rw (c.at_start.ensures, c.new.ensures.held) (λ commands m. asked_items c.args.features c.new.result.items c.new.ensures.explains commands m)
