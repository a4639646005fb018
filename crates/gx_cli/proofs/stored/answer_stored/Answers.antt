use Rattle.std.proofs.Common.{inr}
use Rattle.gx_model.specs.Stores.StoreReading.{store_of}
use Rattle.gx_cli.specs.Serving.{EndsAnswered, EndsOpened, IsAnswered}
use Rattle.gx_cli.proofs.ReadStores.{of_read}
use Rattle.gx_cli.proofs.stored.answer_stored.Goals as goal

pub returns-in-Ok : goal.returns-in-Ok
returns-in-Ok g c =
    let was = g.W.Sink.taken c.args.sink.now in
    let now = g.W.Sink.taken c.answer.new.sink in
    of_read c.args.namer c.in-Ok.repo (store_of (g.N.Namer.name_of c.args.namer) c.args.store.items)
    (λ namer stored. EndsOpened stored (λ r. EndsAnswered (IsAnswered (g.N.Namer.name_of namer) c.args.question.now r (g.R.Source.coming c.args.source) was now) c.outcome_of.result) was now c.outcome_of.result)
    c.in-Ok.ensures.namer c.in-Ok.ensures.store (inr (c.answer.result, c.answer.ensures, c.outcome_of.ensures))
