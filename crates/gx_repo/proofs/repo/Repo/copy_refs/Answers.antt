use Rattle.std.proofs.Common.{subst}
use Rattle.std.specs.Prelude.{◌≡◌, IfOk}
use Rattle.gx_repo.proofs.repo.Repo.copy_refs.Goals as goal

pub returns : goal.returns
returns g c = subst (λ v. IfOk c.copied.result (λ refs. refs ≡ v.1.refs)) c.self.view_is c.copied.ensures
