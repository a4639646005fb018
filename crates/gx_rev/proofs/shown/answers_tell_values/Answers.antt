use Rattle.gx_rev.proofs.OneAnswer.{answers_tell}
use Rattle.gx_rev.proofs.shown.answers_tell_values.Goals as goal

pub returns : goal.returns
returns g c = answers_tell (g.N.Namer.name_of c.args.repo.now.0) c.args.repo.now.1
