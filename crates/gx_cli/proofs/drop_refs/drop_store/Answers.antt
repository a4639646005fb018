use Rattle.std.proofs.Common.{inr}
use Rattle.gx_model.specs.Stores.StoreReading.{store_of}
use Rattle.gx_text.specs.Lent.{lent_texts}
use Rattle.gx_cli.specs.Dropping.{DropsStored, shown_left}
use Rattle.gx_cli.proofs.ReadStores.{of_read}
use Rattle.gx_cli.proofs.drop_refs.drop_store.Goals as goal

pub returns-in-Ok-clause-dropped : goal.returns-in-Ok-clause-dropped
returns-in-Ok-clause-dropped g c =
    of_read c.args.namer c.in-Ok.repo (store_of (g.N.Namer.name_of c.args.namer) c.args.store.items)
    (λ namer stored. DropsStored (g.N.Namer.name_of namer) c.args.stdin stored (lent_texts c.args.words.now) (g.R.Source.coming c.args.source) (shown_left c.drop_named.result))
    c.in-Ok.ensures.namer c.in-Ok.ensures.store (inr c.drop_named.ensures.dropped)
