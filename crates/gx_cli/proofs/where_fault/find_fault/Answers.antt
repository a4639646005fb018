use Rattle.std.proofs.Common.{sym, ◌∙◌}
use Rattle.gx_cli.proofs.FoundFaults.{fault_found, found_retold}
use Rattle.gx_cli.proofs.where_fault.find_fault.Goals as goal

pub returns-clause-found : goal.returns-clause-found
returns-clause-found g c =
    fault_found g.row.N.Denot c.args.features (g.N.Namer.name_of c.args.namer) c.new-progress.result c.import_alone.new.sink (g.R.Source.coming c.args.source) c.in-Err.fault c.new-progress.ensures (sym c.has_failed.ensures ∙ c.if-has_failed.false) c.in-Err.ensures.replayed

pub returns-clause-retold : goal.returns-clause-retold
returns-clause-retold g c = λ none.
    found_retold (g.N.Namer.name_of c.args.namer) c.import_alone.new.told c.args.features c.new-progress.result c.import_alone.new.sink c.in-Err.fault c.new-progress.ensures (sym c.has_failed.ensures ∙ c.if-has_failed.false) (c.in-Err.ensures.retold none)
