use Rattle.gx_cli.specs.Storing.{answer_of}
use Rattle.gx_cli.proofs.import.import_text.Goals as goal

pub returns-clause-imported : goal.returns-clause-imported
returns-clause-imported g c = (answer_of c.import_store-next.result, c.import_store-next.ensures.imported, c.ended.ensures c.args.namer c.import_store-next.ensures.namer)

pub returns-clause-again : goal.returns-clause-again
returns-clause-again g c = (answer_of c.import_store-next.result, c.import_store-next.ensures.again, c.ended.ensures c.args.namer c.import_store-next.ensures.namer)
