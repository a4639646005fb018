use Rattle.std.proofs.Common.{Err, Ok, ap, refl}
use Rattle.gx_cli.specs.declared.fault.CliFault.TheVariants.{Import}
use Rattle.gx_cli.proofs.StoredImports.{accepted_again, left_namer, left_records, refused_again}
use Rattle.gx_cli.proofs.import.import_opened.Goals as goal

pub returns-in-Ok-clause-imported : goal.returns-in-Ok-clause-imported
returns-in-Ok-clause-imported g c =
    (c.import_explained.new.repo.1, Ok c.in-Ok.report, c.in-Ok.ensures.replayed, c.import_explained.ensures.gitlinks, (c.import_explained.ensures.sound, refl))

pub returns-in-Ok-clause-again : goal.returns-in-Ok-clause-again
returns-in-Ok-clause-again g c =
    let name = g.N.Namer.name_of c.args.repo.0 in
    let again = c.forms_are_imported.ensures name (g.met.N.Namer.is_namer c.args.repo.0) c.args.features c.args.repo.1 c.import_explained.new.repo.1
    (g.R.Source.coming c.args.source) (g.W.Sink.taken c.args.sink.now) (g.W.Sink.taken c.import_explained.new.sink) (Ok c.in-Ok.report) c.import_explained.ensures.sound c.in-Ok.ensures.replayed tt c.in-Ok.ensures.exported in
    accepted_again name c.args.features c.args.repo.1 c.import_explained.new.repo c.import_explained.ensures.sound c.in-Ok.report (g.R.Source.coming c.args.source) again

pub returns-in-Err-clause-namer : goal.returns-in-Err-clause-namer
returns-in-Err-clause-namer g c =
    left_namer c.import_explained.new.repo c.in-Err.fault.checkpoints c.left.result c.left.ensures c.args.repo.0 c.import_explained.ensures.namer

pub returns-in-Err-clause-imported : goal.returns-in-Err-clause-imported
returns-in-Err-clause-imported g c =
    let left = left_records c.import_explained.new.repo c.in-Err.fault.checkpoints c.left.result c.left.ensures in
    (c.import_explained.new.repo.1, Err c.in-Err.fault, c.in-Err.ensures.replayed, c.import_explained.ensures.gitlinks, (c.import_explained.ensures.sound, ap (λ x. (x, Err (Import c.in-Err.fault))) left))

pub returns-in-Err-clause-again : goal.returns-in-Err-clause-again
returns-in-Err-clause-again g c =
    let name = g.N.Namer.name_of c.args.repo.0 in
    let again = c.forms_are_imported.ensures name (g.met.N.Namer.is_namer c.args.repo.0) c.args.features c.args.repo.1 c.import_explained.new.repo.1
    (g.R.Source.coming c.args.source) (g.W.Sink.taken c.args.sink.now) (g.W.Sink.taken c.import_explained.new.sink) (Err c.in-Err.fault) c.import_explained.ensures.sound c.in-Err.ensures.replayed c.in-Err.ensures.stopped c.in-Err.ensures.exported in
    refused_again name c.args.features c.args.repo.1 c.import_explained.new.repo c.import_explained.ensures.sound c.in-Err.fault c.left.result c.left.ensures (g.R.Source.coming c.args.source) again

-- ---- where the source tells nothing, what is told is of the same commands

pub returns-in-Ok-clause-retold : goal.returns-in-Ok-clause-retold
returns-in-Ok-clause-retold g c = λ none.
    (c.import_explained.new.repo.1, Ok c.in-Ok.report, c.in-Ok.ensures.retold none, (c.import_explained.ensures.sound, refl))

pub returns-in-Err-clause-retold : goal.returns-in-Err-clause-retold
returns-in-Err-clause-retold g c = λ none.
    let left = left_records c.import_explained.new.repo c.in-Err.fault.checkpoints c.left.result c.left.ensures in
    (c.import_explained.new.repo.1, Err c.in-Err.fault, c.in-Err.ensures.retold none, (c.import_explained.ensures.sound, ap (λ x. (x, Err (Import c.in-Err.fault))) left))
