use Rattle.std.proofs.Common.{◌≡◌, inr, subst}
use Rattle.std.specs.Prelude.{IfSome}
use Rattle.gx_model.specs.Stores.StoreReading.{store_of}
use Rattle.gx_cli.specs.Explained.{ExplainsStored}
use Rattle.gx_cli.specs.Retold.{RetellsStored}
use Rattle.gx_cli.specs.Storing.{ImportsAgain, ImportsStored, answer_of}
use Rattle.gx_cli.proofs.ExplainedImports.{unread_told}
use Rattle.gx_cli.proofs.ReadStores.{of_read}
use Rattle.gx_cli.proofs.RetoldImports.{unread_retold}
use Rattle.gx_cli.proofs.import.import_store.Goals as goal

pub returns-in-Ok-clause-namer : goal.returns-in-Ok-clause-namer
returns-in-Ok-clause-namer g c = subst (λ n. IfSome c.import_opened.result.0 (λ repo. repo.0 ≡ n)) c.in-Ok.ensures.namer c.import_opened.ensures.namer

pub returns-in-Ok-clause-imported : goal.returns-in-Ok-clause-imported
returns-in-Ok-clause-imported g c =
    of_read c.args.namer c.in-Ok.repo (store_of (g.N.Namer.name_of c.args.namer) c.args.store.items)
    (λ namer stored. ImportsStored (g.N.Namer.name_of namer) c.args.features stored (g.R.Source.coming c.args.source) (g.W.Sink.taken c.args.sink.now) (g.W.Sink.taken c.import_opened.new.sink) (answer_of c.import_opened.result))
    c.in-Ok.ensures.namer c.in-Ok.ensures.store (inr c.import_opened.ensures.imported)

pub returns-in-Ok-clause-again : goal.returns-in-Ok-clause-again
returns-in-Ok-clause-again g c =
    of_read c.args.namer c.in-Ok.repo (store_of (g.N.Namer.name_of c.args.namer) c.args.store.items)
    (λ namer stored. ImportsAgain (g.N.Namer.name_of namer) c.args.features stored (g.R.Source.coming c.args.source) (answer_of c.import_opened.result))
    c.in-Ok.ensures.namer c.in-Ok.ensures.store c.import_opened.ensures.again

pub returns-in-Ok-clause-explained : goal.returns-in-Ok-clause-explained
returns-in-Ok-clause-explained g c =
    of_read c.args.namer c.in-Ok.repo (store_of (g.N.Namer.name_of c.args.namer) c.args.store.items)
    (λ namer stored. ExplainsStored (g.N.Namer.name_of namer) c.args.features stored (g.R.Source.coming c.args.source) c.import_opened.result.1 c.import_opened.new.told)
    c.in-Ok.ensures.namer c.in-Ok.ensures.store c.import_opened.ensures.explained

pub returns-in-Err-clause-explained : goal.returns-in-Err-clause-explained
returns-in-Err-clause-explained g c =
    unread_told (g.N.Namer.name_of c.args.namer) c.none.result _ c.args.features (store_of (g.N.Namer.name_of c.args.namer) c.args.store.items) (g.R.Source.coming c.args.source) c.in-Err.fault
    (record { change = c.none.ensures.change; path = c.none.ensures.path; asked = c.none.ensures.asked; loss = c.none.ensures.loss })

-- ---- where the source tells nothing, what is told is of the same commands

pub returns-in-Ok-clause-retold : goal.returns-in-Ok-clause-retold
returns-in-Ok-clause-retold g c = λ none.
    of_read c.args.namer c.in-Ok.repo (store_of (g.N.Namer.name_of c.args.namer) c.args.store.items)
    (λ namer stored. RetellsStored (g.N.Namer.name_of namer) c.args.features stored (g.W.Sink.taken c.args.sink.now) (g.W.Sink.taken c.import_opened.new.sink) (answer_of c.import_opened.result) c.import_opened.new.told)
    c.in-Ok.ensures.namer c.in-Ok.ensures.store (inr (c.import_opened.ensures.retold none))

pub returns-in-Err-clause-retold : goal.returns-in-Err-clause-retold
returns-in-Err-clause-retold g c = λ none.
    unread_retold (g.N.Namer.name_of c.args.namer) c.none.result c.args.features (g.W.Sink.taken c.args.sink.now)
    (record { change = c.none.ensures.change; path = c.none.ensures.path; asked = c.none.ensures.asked; loss = c.none.ensures.loss })
    (store_of (g.N.Namer.name_of c.args.namer) c.args.store.items) c.in-Err.fault c.in-Err.ensures.store
