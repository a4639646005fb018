use Rattle.std.proofs.Common.{inr, subst}
use Rattle.gx_cli.specs.Reporting.{Reports}
use Rattle.gx_cli.proofs.ExplainedImports.{kept_told}
use Rattle.gx_cli.proofs.ReportedImports.{none_copied}
use Rattle.gx_cli.proofs.RetoldImports.{none_reported}
use Rattle.gx_cli.proofs.ref_report.report_opened.Goals as goal

pub returns-in-Err-clause-reported : goal.returns-in-Err-clause-reported
returns-in-Err-clause-reported g c = none_copied g.N.Namer.name_of c.args.repo.0 c.args.features c.args.repo.1 (g.R.Source.coming c.args.source) (g.W.Sink.taken c.args.sink.now)

pub returns-in-Ok-clause-explained : goal.returns-in-Ok-clause-explained
returns-in-Ok-clause-explained g c =
    kept_told (g.N.Namer.name_of c.args.repo.0) c.args.features c.args.repo.1 (g.R.Source.coming c.args.source) c.import_opened-next.result.1 c.with_report.result.1 c.import_opened-next.new.told c.with_report.new.told
    c.with_report.ensures.told c.import_opened-next.ensures.explained

-- ---- where the source tells nothing, what is told is of the same commands

pub returns-in-Ok-clause-retold : goal.returns-in-Ok-clause-retold
returns-in-Ok-clause-retold g c = λ none. (
  c.import_opened-next.result,
  c.import_opened-next.new.told,
  inr (c.import_opened-next.ensures.retold none),
  subst (λ refs. Reports refs c.import_opened-next.result c.with_report.result) c.in-Ok.ensures c.with_report.ensures.reported,
  c.with_report.ensures.told,
)

pub returns-in-Err-clause-retold : goal.returns-in-Err-clause-retold
returns-in-Err-clause-retold g c = λ none.
    none_reported (g.N.Namer.name_of c.args.repo.0) c.none.result c.args.features (g.W.Sink.taken c.args.sink.now)
    (record { change = c.none.ensures.change; path = c.none.ensures.path; asked = c.none.ensures.asked; loss = c.none.ensures.loss })
    g.row.N.Denot c.args.repo.1
