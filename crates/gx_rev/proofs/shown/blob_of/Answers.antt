use Rattle.std.proofs.Common.{◌∙◌}
use Rattle.gx_rev.specs.Objects.{value_at}
use Rattle.gx_model.proofs.Records.HeldValues.{blob_body}
use Rattle.gx_rev.proofs.shown.blob_of.Goals as goal

pub body_of-requires : goal.body_of-requires
body_of-requires g c = c.requires.2

pub returns : goal.returns
returns g c = c.body_of.ensures ∙ blob_body (g.N.Namer.name_of c.args.repo.now.0) (value_at c.args.repo.now.1 c.args.name.now) c.requires.0
