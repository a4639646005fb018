use Rattle.gx_import.proofs.files.tree_of.Goals as goal

pub returns : goal.returns
returns g c = rw c.view_of.ensures at c.tree.ensures
