use Rattle.std.proofs.Common.{ap, ◌∙◌}
use Rattle.gx_store.proofs.text.Text.as_slice.Goals as goal

pub returns : goal.returns
returns g c = c.as_slice.ensures.value ∙ ap (λ v. v.items) c.deref.ensures ∙ c.self.view_is
