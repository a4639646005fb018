use Rattle.std.proofs.Common.{Err, subst, sym}
use Rattle.gx_cli.specs.Gathering.{GathersLines}
use Rattle.gx_cli.proofs.GatheredLines.{lines_cut_off, lines_gathered}
use Rattle.gx_cli.proofs.lines.lines_from.Goals as goal

pub returns-in-Ok : goal.returns-in-Ok
returns-in-Ok g c = lines_gathered g.row.A.Denot (g.R.Source.coming c.args.source) c.in-Ok.lines c.in-Ok.ensures

pub returns-in-Err : goal.returns-in-Err
returns-in-Err g c =
    subst (λ fault. GathersLines {A = g.row.A.Denot} (g.R.Source.coming c.args.source) (Err fault)) (sym c.from.ensures) (lines_cut_off g.row.A.Denot (g.R.Source.coming c.args.source) c.in-Err.fault c.in-Err.ensures)
