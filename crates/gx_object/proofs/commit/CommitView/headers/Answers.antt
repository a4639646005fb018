use Rattle.std.proofs.Common.{ap}
use Rattle.gx_model.specs.Objects.{CommitParts}
use Rattle.gx_object.proofs.commit.CommitView.headers.Goals as goal

pub returns : goal.returns
returns c = ap (λ (p : CommitParts). p.text.headers) c.self.view_is
