use Rattle.std.proofs.Common.{subst, []}
use Rattle.gx_model.specs.Records.HistoryOf.{history_of}
use Rattle.gx_print.specs.Listings.{text_of_word}
use Rattle.gx_cli.specs.Trying.{Shows}
use Rattle.gx_cli.proofs.ExplainedImports.{shown_told}
use Rattle.gx_cli.proofs.RetoldImports.{shown_retold}
use Rattle.gx_cli.proofs.Trials.{tried}
use Rattle.gx_cli.proofs.try_stream.try_revision.Goals as goal

pub returns-in-Ok-clause-tried : goal.returns-in-Ok-clause-tried
returns-in-Ok-clause-tried g c =
    let mid = g.W.Sink.taken c.import_alone.new.sink in
    let now = g.W.Sink.taken c.show.new.sink in
    let shown = subst (λ namer. Shows [] (text_of_word (g.N.Namer.name_of namer) (history_of c.in-Ok.repo.1) c.args.word.now) mid now c.show.result) c.in-Ok.ensures.namer c.show.ensures in
    tried c.args.features (g.N.Namer.name_of c.args.namer) c.in-Ok.repo c.args.word.now (g.W.Sink.taken c.args.sink.now) mid now (g.R.Source.coming c.args.source) c.show.result c.in-Ok.ensures.replayed shown

pub returns-in-Ok-clause-explained : goal.returns-in-Ok-clause-explained
returns-in-Ok-clause-explained g c =
    shown_told (g.N.Namer.name_of c.args.namer) c.import_alone.new.told c.args.features (g.R.Source.coming c.args.source) [] (text_of_word (g.N.Namer.name_of c.in-Ok.repo.0) (history_of c.in-Ok.repo.1) c.args.word.now)
    (g.W.Sink.taken c.import_alone.new.sink) (g.W.Sink.taken c.show.new.sink) c.show.result c.show.ensures c.in-Ok.ensures.explained

pub returns-in-Ok-clause-retold : goal.returns-in-Ok-clause-retold
returns-in-Ok-clause-retold g c = λ none.
    shown_retold (g.N.Namer.name_of c.args.namer) c.import_alone.new.told c.args.features (g.W.Sink.taken c.args.sink.now) (g.W.Sink.taken c.show.new.sink) [] (text_of_word (g.N.Namer.name_of c.in-Ok.repo.0) (history_of c.in-Ok.repo.1) c.args.word.now)
    (g.W.Sink.taken c.import_alone.new.sink) (g.W.Sink.taken c.show.new.sink) c.show.result c.show.ensures c.in-Ok.ensures.explained
