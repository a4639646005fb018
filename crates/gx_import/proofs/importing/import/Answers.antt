use Rattle.std.proofs.Common.{ap, subst}
use Rattle.std.specs.Prelude.{IfErr, OnOk}
use Rattle.gx_import.specs.Imports.{Imports, StandsAsked}
use Rattle.gx_import.specs.Stopping.{StopsAsked}
use Rattle.gx_import.proofs.importing.import.Goals as goal

pub returns-clause-replayed : goal.returns-clause-replayed
returns-clause-replayed g c =
    let was = g.W.Sink.taken c.args.sink.now in
    let now = g.W.Sink.taken c.import_asking.new.sink in
    subst (λ asks. Imports asks (g.N.Namer.name_of c.args.repo.now.0) c.args.repo.now.1 c.import_asking.new.repo.1 (g.R.Source.coming c.args.source) was now c.import_asking.result)
    c.none.ensures c.import_asking.ensures.replayed

pub returns-clause-stands : goal.returns-clause-stands
returns-clause-stands g c =
    subst (λ asks. OnOk c.import_asking.result (StandsAsked asks g.N.Namer.name_of c.args.repo.now c.import_asking.new.repo (g.R.Source.coming c.args.source))) c.none.ensures c.import_asking.ensures.stands

pub returns-clause-exported : goal.returns-clause-exported
returns-clause-exported g c = c.import_asking.ensures.exported (ap (λ f. f.force) c.none.ensures)

pub returns-clause-nulls : goal.returns-clause-nulls
returns-clause-nulls g c = c.import_asking.ensures.nulls (ap (λ f. f.force) c.none.ensures)

pub returns-clause-stopped : goal.returns-clause-stopped
returns-clause-stopped g c =
    subst (λ asks. IfErr c.import_asking.result (StopsAsked g.N.Namer.name_of asks c.args.repo.now (g.R.Source.coming c.args.source))) c.none.ensures c.import_asking.ensures.stopped
