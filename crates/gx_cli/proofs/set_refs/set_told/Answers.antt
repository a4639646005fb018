use Rattle.std.proofs.Common.{Err, subst, sym}
use Rattle.gx_cli.specs.Setting.{SetsFrom}
use Rattle.gx_cli.proofs.SetStores.{lines_unset}
use Rattle.gx_cli.proofs.set_refs.set_told.Goals as goal

pub returns-in-Err-clause-set : goal.returns-in-Err-clause-set
returns-in-Err-clause-set g c =
    let name = g.N.Namer.name_of c.args.repo.0 in
    let old = c.args.repo.1 in
    let coming = g.R.Source.coming c.args.source in
    subst (λ change. SetsFrom name c.args.forced old change coming (Err c.in-Err.fault)) (sym c.in-None.is) (lines_unset g.row.A.Denot name c.args.forced old coming c.in-Err.fault c.in-Err.ensures)
