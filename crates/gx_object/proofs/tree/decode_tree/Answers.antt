use Rattle.std.proofs.Common.{arith}
use Rattle.gx_object.proofs.Laws.{tree_found, tree_only}
use Rattle.gx_object.proofs.tree.decode_tree.Goals as goal

pub returns-clause-found : goal.returns-clause-found
returns-clause-found c = tree_found c.args.body.now c.read_tree.result (λ i. let fits = c.type_inv.body i in omega arith) c.read_tree.ensures

pub returns-clause-only : goal.returns-clause-only
returns-clause-only c = tree_only c.args.body.now c.read_tree.result c.read_tree.ensures
