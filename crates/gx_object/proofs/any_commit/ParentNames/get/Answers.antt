use Rattle.std.proofs.Common.{slice_get, ap, ◌∙◌}
use Rattle.gx_object.specs.Commits.{parents_of}
use Rattle.gx_object.proofs.any_commit.ParentNames.get.Goals as goal

pub returns : goal.returns
returns c = c.parent_at.ensures (parents_of c.self.inside.lines.now).0 c.self.invariant.names c.self.invariant.lines ∙ ap (λ names. slice_get names c.args.place) c.self.view_is
