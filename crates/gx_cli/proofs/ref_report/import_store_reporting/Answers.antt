use Rattle.gx_model.specs.Stores.StoreReading.{store_of}
use Rattle.gx_cli.specs.Explained.{ExplainsStored}
use Rattle.gx_cli.specs.Reporting.{ReportsStored}
use Rattle.gx_cli.specs.Retold.{RetellsReported}
use Rattle.gx_cli.proofs.ExplainedImports.{unread_told}
use Rattle.gx_cli.proofs.ReadStores.{of_read}
use Rattle.gx_cli.proofs.ReportedImports.{none_read}
use Rattle.gx_cli.proofs.RetoldImports.{unread_reported}
use Rattle.gx_cli.proofs.ref_report.import_store_reporting.Goals as goal

pub returns-in-Ok-clause-reported : goal.returns-in-Ok-clause-reported
returns-in-Ok-clause-reported g c =
    of_read c.args.namer c.in-Ok.repo (store_of (g.N.Namer.name_of c.args.namer) c.args.store.items)
    (λ namer stored. ReportsStored g.N.Namer.name_of namer c.args.features stored (g.R.Source.coming c.args.source) (g.W.Sink.taken c.args.sink.now) (g.W.Sink.taken c.report_opened.new.sink) c.report_opened.result)
    c.in-Ok.ensures.namer c.in-Ok.ensures.store c.report_opened.ensures.reported

pub returns-in-Err-clause-reported : goal.returns-in-Err-clause-reported
returns-in-Err-clause-reported g c =
    none_read g.N.Namer.name_of c.args.namer _ c.args.features (store_of (g.N.Namer.name_of c.args.namer) c.args.store.items) c.in-Err.fault (g.R.Source.coming c.args.source) (g.W.Sink.taken c.args.sink.now) c.in-Err.ensures.store

pub returns-in-Ok-clause-explained : goal.returns-in-Ok-clause-explained
returns-in-Ok-clause-explained g c =
    of_read c.args.namer c.in-Ok.repo (store_of (g.N.Namer.name_of c.args.namer) c.args.store.items)
    (λ namer stored. ExplainsStored (g.N.Namer.name_of namer) c.args.features stored (g.R.Source.coming c.args.source) c.report_opened.result.1 c.report_opened.new.told)
    c.in-Ok.ensures.namer c.in-Ok.ensures.store c.report_opened.ensures.explained

pub returns-in-Err-clause-explained : goal.returns-in-Err-clause-explained
returns-in-Err-clause-explained g c =
    unread_told (g.N.Namer.name_of c.args.namer) c.none.result _ c.args.features (store_of (g.N.Namer.name_of c.args.namer) c.args.store.items) (g.R.Source.coming c.args.source) c.in-Err.fault
    (record { change = c.none.ensures.change; path = c.none.ensures.path; asked = c.none.ensures.asked; loss = c.none.ensures.loss })

-- ---- where the source tells nothing, what is told is of the same commands

pub returns-in-Ok-clause-retold : goal.returns-in-Ok-clause-retold
returns-in-Ok-clause-retold g c = λ none.
    of_read c.args.namer c.in-Ok.repo (store_of (g.N.Namer.name_of c.args.namer) c.args.store.items)
    (λ namer stored. RetellsReported (g.N.Namer.name_of namer) c.args.features stored (g.W.Sink.taken c.args.sink.now) (g.W.Sink.taken c.report_opened.new.sink) c.report_opened.result c.report_opened.new.told)
    c.in-Ok.ensures.namer c.in-Ok.ensures.store (c.report_opened.ensures.retold none)

pub returns-in-Err-clause-retold : goal.returns-in-Err-clause-retold
returns-in-Err-clause-retold g c = λ none.
    unread_reported (g.N.Namer.name_of c.args.namer) c.none.result c.args.features (g.W.Sink.taken c.args.sink.now)
    (record { change = c.none.ensures.change; path = c.none.ensures.path; asked = c.none.ensures.asked; loss = c.none.ensures.loss })
    g.row.N.Denot (store_of (g.N.Namer.name_of c.args.namer) c.args.store.items) c.in-Err.fault c.in-Err.ensures.store
