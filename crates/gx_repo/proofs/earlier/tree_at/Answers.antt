use Rattle.gx_model.specs.Histories.{Record}
use Rattle.gx_repo.proofs.EarlierTrees.{tree_there}
use Rattle.gx_repo.proofs.earlier.tree_at.Goals as goal

pub returns-in-Some-default-Tree-default : goal.returns-in-Some-default-Tree-default
returns-in-Some-default-Tree-default g c =
    let r : Record = record { name = c.in-Some-default-Tree-default.field-0-0.bytes; kind = c.in-Some-default-Tree-default.field-0-1; body = c.in-Some-default-Tree-default.body.now } in
    tree_there (g.N.Namer.name_of c.args.store.now.0) c.args.store.now.1 c.requires.sound c.args.place r c.in-Some-default-Tree-default.ensures c.in-Some-default-Tree-default.field-0-1-is
