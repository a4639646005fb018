use Rattle.std.proofs.Common.{ap, ◌∙◌}
use Rattle.gx_model.specs.Objects.{CommitParts}
use Rattle.gx_model.specs.Texts.Headers.{encoding_in}
use Rattle.gx_object.proofs.Commits.{encoding_is}
use Rattle.gx_object.proofs.commit.CommitView.encoding.Goals as goal

pub returns : goal.returns
returns c = c.cut_encoding.ensures ∙ encoding_is _ ∙ ap (λ (p : CommitParts). encoding_in p.text.headers) c.self.view_is
