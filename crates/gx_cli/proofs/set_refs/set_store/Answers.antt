use Rattle.std.proofs.Common.{inr}
use Rattle.gx_model.specs.Stores.StoreReading.{store_of}
use Rattle.gx_cli.specs.Dropping.{shown_left}
use Rattle.gx_cli.specs.Setting.{SetsStored}
use Rattle.gx_cli.proofs.ReadStores.{of_read}
use Rattle.gx_cli.proofs.set_refs.set_store.Goals as goal

pub returns-in-Ok-clause-set : goal.returns-in-Ok-clause-set
returns-in-Ok-clause-set g c =
    of_read c.args.namer c.in-Ok.repo (store_of (g.N.Namer.name_of c.args.namer) c.args.store.items)
    (λ namer stored. SetsStored (g.N.Namer.name_of namer) c.args.forced stored c.args.change (g.R.Source.coming c.args.source) (shown_left c.set_told.result))
    c.in-Ok.ensures.namer c.in-Ok.ensures.store (inr c.set_told.ensures.set)
