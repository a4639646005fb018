use Rattle.std.proofs.Common.{inr}
use Rattle.gx_model.specs.Stores.StoreReading.{store_of}
use Rattle.gx_object.specs.Commits.{bytes_of_names}
use Rattle.gx_cli.specs.Collecting.{CollectsStored}
use Rattle.gx_cli.proofs.ReadStores.{of_read}
use Rattle.gx_cli.proofs.gc.collect_text.Goals as goal

pub returns-in-Ok : goal.returns-in-Ok
returns-in-Ok g c =
    of_read c.args.namer c.in-Ok.repo (store_of (g.N.Namer.name_of c.args.namer) c.args.store.items)
    (λ namer stored. CollectsStored g.N.Namer.name_of namer (bytes_of_names c.args.kept.now) stored c.collect_opened.result)
    c.in-Ok.ensures.namer c.in-Ok.ensures.store (inr c.collect_opened.ensures)
