use Rattle.std.proofs.Common.{[], ap}
use Rattle.std.specs.Option.{is_some, unwrap_or}
use Rattle.gx_object.proofs.Laws.{tree_read}
use Rattle.gx_object.proofs.tree.held_tree.Goals as goal

pub invariant_of-result : goal.invariant_of-result
invariant_of-result c = ap is_some (tree_read c.args.body.now c.requires.0 c.requires.1)

pub returns : goal.returns
returns c = λ es h. ap (λ o. unwrap_or o []) (tree_read c.args.body.now es h)
