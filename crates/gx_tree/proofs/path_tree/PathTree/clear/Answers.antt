use Rattle.gx_tree.proofs.NamedFiles.{no_names}
use Rattle.gx_tree.proofs.path_tree.PathTree.clear.Goals as goal

pub invariant_of-self : goal.invariant_of-self
invariant_of-self g c = no_names
