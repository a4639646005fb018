use Rattle.gx_tree.proofs.NamedFiles.{no_names}
use Rattle.gx_tree.proofs.path_tree.PathTree.empty.Goals as goal

pub invariant_of-result : goal.invariant_of-result
invariant_of-result g c = no_names
