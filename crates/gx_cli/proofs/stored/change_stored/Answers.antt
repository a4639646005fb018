use Rattle.std.proofs.Common.{◌≡◌, inr, refl}
use Rattle.gx_model.specs.Stores.StoreReading.{store_of}
use Rattle.gx_cli.specs.Serving.{ChangesOpened, EndsOpened}
use Rattle.gx_cli.proofs.ReadStores.{of_read}
use Rattle.gx_cli.proofs.stored.change_stored.Goals as goal

pub returns-in-Ok : goal.returns-in-Ok
returns-in-Ok g c = λ was.
    of_read c.args.namer c.in-Ok.repo (store_of (g.N.Namer.name_of c.args.namer) c.args.store.items)
    (λ namer stored. EndsOpened stored (λ r. ChangesOpened (g.N.Namer.name_of namer) c.args.change.now r (g.R.Source.coming c.args.source) c.change_opened.result × (was ≡ was)) was was c.change_opened.result)
    c.in-Ok.ensures.namer c.in-Ok.ensures.store (inr (c.change_opened.ensures, refl))
