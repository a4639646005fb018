use Rattle.std.proofs.Common.{◌∙◌, sym}
use Rattle.gx_model.proofs.ObjectTexts.BodiesReadBack.{commit_read, entries_read, tag_read}
use Rattle.gx_model.proofs.object_laws.bodies_tell_parts.Goals as goal

pub returns : goal.returns
returns c = record {
  trees = λ es fs body h g. sym (entries_read es body h) ∙ entries_read fs body g;
  commits = λ p q body h g. sym (commit_read p body h) ∙ commit_read q body g;
  tags = λ p q body h g. sym (tag_read p body h) ∙ tag_read q body g;
}
