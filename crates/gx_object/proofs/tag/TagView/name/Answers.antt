use Rattle.std.proofs.Common.{ap}
use Rattle.gx_model.specs.Objects.{TagParts}
use Rattle.gx_object.proofs.tag.TagView.name.Goals as goal

pub returns : goal.returns
returns c = ap (λ (p : TagParts). p.name) c.self.view_is
