use Rattle.gx_model.specs.Stores.StoreReading.{store_of}
use Rattle.gx_cli.specs.Pushing.{RetellsPushed, answer_of}
use Rattle.gx_cli.proofs.ReadStores.{of_read}
use Rattle.gx_cli.proofs.pushing.push_store.Goals as goal

pub returns-in-Ok-clause-retold : goal.returns-in-Ok-clause-retold
returns-in-Ok-clause-retold g c = λ silent.
    let was = g.W.Sink.taken c.args.sink.now in
    let now = g.W.Sink.taken c.push_opened.new.sink in
    of_read c.args.namer c.in-Ok.repo (store_of (g.N.Namer.name_of c.args.namer) c.args.store.items)
    (λ namer stored. RetellsPushed (g.N.Namer.name_of namer) c.args.done stored was now (answer_of c.push_opened.result) c.push_opened.new.told)
    c.in-Ok.ensures.namer c.in-Ok.ensures.store (c.push_opened.ensures.retold silent)
