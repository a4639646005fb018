use Rattle.std.proofs.Common.{Err, subst, ◌∙◌}
use Rattle.gx_cli.specs.Forms.{text_as}
use Rattle.gx_cli.specs.Headline.{ComesBack}
use Rattle.gx_import.specs.Explaining.{ExplainsFault}
use Rattle.gx_import.specs.Retelling.{IsOfOneReplay}
use Rattle.gx_cli.specs.declared.trips.RoundTrip.{RoundTrip}
use Rattle.gx_cli.proofs.RetoldImports.{trip_retold}
use Rattle.gx_cli.proofs.RoundTrips.{refused_first, trip_came, trip_told}
use Rattle.gx_cli.proofs.trips.round_trip.Goals as goal

pub come_back-requires : goal.come_back-requires
come_back-requires g c =
    record {
      namer = c.import_explained.ensures.namer ∙ c.requires.namer;
      gitlinks = c.import_explained.ensures.gitlinks c.requires.gitlinks;
    }

pub returns-in-Ok-clause-back : goal.returns-in-Ok-clause-back
returns-in-Ok-clause-back g c =
    trip_came g.N.Namer.name_of c.args.namer c.args.options.now.features c.args.repo.now c.import_explained.new.repo c.requires.namer (g.R.Source.coming c.args.source) (g.W.Sink.taken c.args.sink.now) (g.W.Sink.taken c.import_explained.new.sink)
    c.args.options.now.form c.args.options.now.question c.in-Ok.report c.come_back.result c.in-Ok.ensures.replayed c.come_back.ensures.back

pub returns-in-Ok-clause-explained : goal.returns-in-Ok-clause-explained
returns-in-Ok-clause-explained g c =
    trip_told (g.N.Namer.name_of c.args.namer) c.args.options.now.form c.args.options.now.question c.in-Ok.report c.args.repo.now.1 c.import_explained.new.repo.1 c.args.options.now.features (g.R.Source.coming c.args.source) c.come_back.result c.import_explained.new.told
    c.come_back.ensures.back c.in-Ok.ensures.explained

pub returns-in-Err-clause-back : goal.returns-in-Err-clause-back
returns-in-Err-clause-back g c =
    refused_first g.N.Namer.name_of c.args.namer c.args.options.now.features c.args.repo.now c.import_explained.new.repo c.requires.namer (g.R.Source.coming c.args.source) (g.W.Sink.taken c.args.sink.now) (g.W.Sink.taken c.import_explained.new.sink)
    (λ (trip : RoundTrip g.row.N.Denot g.row.A.Denot). trip.report) (ComesBack (g.N.Namer.name_of c.args.namer) c.args.options.now.form c.args.options.now.question) (text_as (g.N.Namer.name_of c.args.namer) c.args.options.now.form) c.in-Err.fault c.in-Err.ensures.replayed c.in-Err.ensures.unchanged

pub returns-in-Err-clause-explained : goal.returns-in-Err-clause-explained
returns-in-Err-clause-explained g c =
    subst (λ (n : g.row.N.Denot). ExplainsFault (g.N.Namer.name_of n) c.args.options.now.features c.args.repo.now.1 (g.R.Source.coming c.args.source) c.in-Err.fault c.import_explained.new.told) c.requires.namer c.in-Err.ensures.explained

-- ---- where the source tells nothing, what is told is of the same commands

pub returns-in-Ok-clause-retold : goal.returns-in-Ok-clause-retold
returns-in-Ok-clause-retold g c = λ none.
    trip_retold (g.N.Namer.name_of c.args.namer) c.import_explained.new.told c.args.options.now.features (g.W.Sink.taken c.args.sink.now) (g.W.Sink.taken c.import_explained.new.sink)
    c.args.options.now.form c.args.options.now.question c.in-Ok.report c.args.repo.now.1 c.import_explained.new.repo.1 c.come_back.result c.come_back.ensures.back c.in-Ok.ensures.explained

pub returns-in-Err-clause-retold : goal.returns-in-Err-clause-retold
returns-in-Err-clause-retold g c = λ none.
    subst (λ (n : g.row.N.Denot). IsOfOneReplay c.args.options.now.features (g.N.Namer.name_of n) c.args.repo.now.1 c.import_explained.new.repo.1 (g.W.Sink.taken c.args.sink.now) (g.W.Sink.taken c.import_explained.new.sink) (Err c.in-Err.fault) c.import_explained.new.told)
    c.requires.namer (c.in-Err.ensures.retold none)
