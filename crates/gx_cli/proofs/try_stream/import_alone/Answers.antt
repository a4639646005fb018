use Rattle.gx_cli.proofs.ExplainedImports.{alone_told}
use Rattle.gx_cli.proofs.RetoldImports.{alone_retold}
use Rattle.gx_cli.proofs.Trials.{accepted_alone, refused_alone}
use Rattle.gx_cli.proofs.try_stream.import_alone.Goals as goal

pub returns-in-Ok-clause-replayed : goal.returns-in-Ok-clause-replayed
returns-in-Ok-clause-replayed g c =
    accepted_alone c.args.features g.N.Namer.name_of c.args.namer c.new-repo.result c.import_explained.new.repo (g.R.Source.coming c.args.source) (g.W.Sink.taken c.args.sink.now) (g.W.Sink.taken c.import_explained.new.sink) c.in-Ok.field-0 c.new-repo.ensures c.in-Ok.ensures.replayed

pub returns-in-Err-clause-replayed : goal.returns-in-Err-clause-replayed
returns-in-Err-clause-replayed g c =
    refused_alone c.args.features g.N.Namer.name_of c.args.namer c.new-repo.result c.import_explained.new.repo.1 (g.R.Source.coming c.args.source) (g.W.Sink.taken c.args.sink.now) (g.W.Sink.taken c.import_explained.new.sink) c.in-Err.fault c.new-repo.ensures c.in-Err.ensures.replayed

pub returns-in-Err-clause-explained : goal.returns-in-Err-clause-explained
returns-in-Err-clause-explained g c =
    alone_told g.N.Namer.name_of c.args.namer c.new-repo.result c.args.features (g.R.Source.coming c.args.source) c.in-Err.fault c.import_explained.new.told c.new-repo.ensures c.in-Err.ensures.explained

pub returns-in-Err-clause-retold : goal.returns-in-Err-clause-retold
returns-in-Err-clause-retold g c = λ none.
    alone_retold g.N.Namer.name_of c.args.namer c.new-repo.result c.import_explained.new.repo.1 c.args.features (g.W.Sink.taken c.args.sink.now) (g.W.Sink.taken c.import_explained.new.sink) c.in-Err.fault c.import_explained.new.told c.new-repo.ensures (c.in-Err.ensures.retold none)
