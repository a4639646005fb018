use Rattle.std.proofs.Common.{ap}
use Rattle.gx_model.specs.Objects.{CommitParts}
use Rattle.gx_object.proofs.commit.CommitView.message.Goals as goal

pub returns : goal.returns
returns c = ap (λ (p : CommitParts). p.text.message) c.self.view_is
