use Rattle.std.proofs.Common.{ap}
use Rattle.gx_model.specs.Objects.{TagParts}
use Rattle.gx_object.proofs.tag.TagView.tagger.Goals as goal

pub returns : goal.returns
returns c = ap (λ (p : TagParts). p.tagger) c.self.view_is
