use Rattle.gx_calls.proofs.repositories.add_again.Goals as goal

pub add_tree_shared-requires-clause-home : goal.add_tree_shared-requires-clause-home
add_tree_shared-requires-clause-home g c = rw c.add_tree.ensures.namer (c.modify.ensures.home _ _ c.in-Ok.ensures.home)
