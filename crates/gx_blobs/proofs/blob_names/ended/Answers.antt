use Rattle.std.proofs.Common.{ap, sym}
use Rattle.gx_blobs.specs.Printing.{ended_at}
use Rattle.gx_blobs.proofs.blob_names.ended.Goals as goal

pub returns-in-None : goal.returns-in-None
returns-in-None c = ap (λ kind. ended_at c.args.count kind) (sym c.in-None.is)

pub returns-in-Some : goal.returns-in-Some
returns-in-Some c = ap (λ kind. ended_at c.args.count kind) (sym c.in-Some.is)
