use Rattle.std.proofs.Common.{ap, ◌∙◌}
use Rattle.gx_store.specs.Stores.{place_named}
use Rattle.gx_store.proofs.Keys.{place_found}
use Rattle.gx_store.proofs.store.Store.place.Goals as goal

pub returns : goal.returns
returns g c = c.get_index_of.ensures.index ∙ place_found c.args.name.now c.self.inside.objects.entries ∙ ap (λ v. place_named v.1 c.args.name.now.bytes) c.self.view_is
