use Rattle.std.proofs.Common.{refl, []}
use Rattle.gx_cli.proofs.ServedLines.{change_refused}
use Rattle.gx_cli.proofs.serving.change_alone.Goals as goal

pub returns-in_default : goal.returns-in_default
returns-in_default g c = λ coming was.
    change_refused (g.N.Namer.name_of c.args.namer) c.refused-in_default.result coming was was c.args.change.now [] c.requires c.in_default.not-Init (c.refused-in_default.ensures, refl)
