use Rattle.std.proofs.Common.{ap, ◌∙◌}
use Rattle.gx_repo.proofs.repo.Repo.refs.Goals as goal

pub returns-clause-held : goal.returns-clause-held
returns-clause-held g c = c.refs.ensures.held ∙ ap (λ v. v.1.refs) c.self.view_is
