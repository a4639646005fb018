use Rattle.gx_cli.proofs.SetStores.{all_set}
use Rattle.gx_push.specs.Calls.{texts}
use Rattle.gx_cli.proofs.set_refs.set_lines.Goals as goal

pub returns-in-Ok-clause-set : goal.returns-in-Ok-clause-set
returns-in-Ok-clause-set g c = all_set (g.N.Namer.name_of c.args.repo.0) c.args.forced c.args.repo.1 (texts c.args.lines.now) c.in-Ok.left c.in-Ok.ensures.refs c.in-Ok.ensures.sound
