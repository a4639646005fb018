use Rattle.std.proofs.Common.{ap, ◌∙◌}
use Rattle.gx_model.specs.Objects.{CommitParts}
use Rattle.gx_model.specs.Texts.Headers.{is_encoding_alone}
use Rattle.gx_object.proofs.Commits.{alone_is}
use Rattle.gx_object.proofs.commit.CommitView.has_encoding_alone.Goals as goal

pub returns : goal.returns
returns c = c.is_alone.ensures ∙ alone_is _ ∙ ap (λ (p : CommitParts). is_encoding_alone p.text.headers) c.self.view_is
