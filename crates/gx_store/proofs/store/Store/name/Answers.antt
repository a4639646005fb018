use Rattle.std.proofs.Common.{ap, ◌∙◌}
use Rattle.gx_store.proofs.store.Store.name.Goals as goal

pub returns : goal.returns
returns g c = c.name.ensures ∙ ap (λ v. g.N.Namer.name_of v.0 c.args.kind c.args.body.now) c.self.view_is
