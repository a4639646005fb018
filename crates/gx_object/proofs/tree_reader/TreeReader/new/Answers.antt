use Rattle.std.proofs.Common.{refl, arith}
use Rattle.gx_object.specs.Trees.{tree_of}
use Rattle.gx_object.proofs.Laws.{tree_again}
use Rattle.gx_object.proofs.Readings.{tree_some}
use Rattle.gx_object.proofs.tree_reader.TreeReader.new.Goals as goal

pub returns-clause-found : goal.returns-clause-found
returns-clause-found c = tree_some c.args.body.now (tree_of c.args.body.now) (λ i. let fits = c.type_inv.body i in omega arith) refl

pub returns-clause-only : goal.returns-clause-only
returns-clause-only c = λ es h. tree_again c.args.body.now es h
