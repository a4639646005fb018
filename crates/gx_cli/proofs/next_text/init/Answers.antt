use Rattle.gx_cli.proofs.StoredAnswers.{written_new}
use Rattle.gx_cli.proofs.next_text.init.Goals as goal

pub returns : goal.returns
returns g c = written_new g.N.Namer.name_of c.new-repo.result c.args.namer c.with_text.result c.new-repo.ensures c.with_text.ensures
