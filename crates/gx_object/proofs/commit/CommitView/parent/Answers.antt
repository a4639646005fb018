use Rattle.std.proofs.Common.{slice_get, ap, ◌∙◌}
use Rattle.gx_model.specs.Objects.{CommitParts}
use Rattle.gx_object.specs.Commits.{parents_of}
use Rattle.gx_object.proofs.commit.CommitView.parent.Goals as goal

pub returns : goal.returns
returns c = c.parent_at.ensures (parents_of c.self.inside.parents.now).0 c.self.invariant.names c.self.invariant.lines ∙ ap (λ (p : CommitParts). slice_get p.parents c.args.place) c.self.view_is
